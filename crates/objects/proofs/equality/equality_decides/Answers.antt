use Rattle.std.proofs.Common.{refl}
use Rattle.objects.proofs.Same.{fault_decides, operator_decides, span_decides, header_decides, value_decides, object_decides, reading_decides, error_decides}
use Rattle.objects.proofs.equality.equality_decides.Goals as goal

pub returns : goal.returns
returns c = record {
  faults = fault_decides;
  fault_numbers = (λ a b. refl);
  operators = operator_decides;
  operator_numbers = (λ a b. refl);
  spans = span_decides;
  headers = header_decides;
  values = value_decides;
  objects = object_decides;
  readings = reading_decides;
  errors = error_decides;
}
