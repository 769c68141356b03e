-- What == answers decides whether two values are the same, at each type that has it.
use Rattle.std.proofs.Common.{◌≡◌, ℤ, Bool, ◌&&◌, ◌==◌, Ok, Err, Result, Decides, refl, ap}
use Rattle.std.proofs.lemmas.Bool.{false≢true, eqb-true, eq-eqb}
use Rattle.std.specs.Ordering.{int_eq}
use Rattle.std.specs.Result.{result_eq}
use Rattle.std.specs.Cmp.{unsigned_Decides, signed_Decides, booleans_Decides}
use denote.Enum.Bare.{sameb, same_true, true_same}
use Rattle.std.proofs.lemmas.Bool.Decides.{Decides-and, Decides-like}
use Rattle.objects.specs.Faults.{fault_number}
use Rattle.objects.specs.Operators.{number}
use Rattle.objects.proofs.Faults as faults
use Rattle.objects.proofs.Operators as operators
use Rattle.objects.specs.contracts.integer.IntegerError as error_type
use Rattle.objects.specs.contracts.object.ObjectPartialEq.TheImpl as of_object
use Rattle.objects.specs.contracts.object.ValuePartialEq.TheImpl as of_value
use Rattle.objects.specs.declared.fault.Fault.{Fault}
use Rattle.objects.specs.declared.integer.IntegerError.{IntegerError}
use Rattle.objects.specs.declared.object.Header.{Header}
use Rattle.objects.specs.declared.object.Object.{Object}
use Rattle.objects.specs.declared.object.Span.{Span}
use Rattle.objects.specs.declared.object.Value.{Value}
use Rattle.objects.specs.declared.object.Value.TheVariants as value
use Rattle.objects.specs.declared.operator.Operator.{Operator}

-- a test that decides whether x and y are the same, said of what is built of them and of nothing else
pub over : {A B : Type 0} (f : A → B) (x y : A) (r : Bool) → (f x ≡ f y → x ≡ y) → Decides r (x ≡ y) → Decides r (f x ≡ f y)
over f x y r back d = Decides-like r (ap f) back d

-- two tests, each of one field
pub both : {A P Q : Type 0} (x y : A) (r s : Bool) → (P → Q → x ≡ y) → (x ≡ y → P) → (x ≡ y → Q) → Decides r P → Decides s Q → Decides (r && s) (x ≡ y)
both x y r s make first second d e = Decides-like (r && s) (λ p. make p.0 p.1) (λ p. (first p, second p)) (Decides-and r s d e)

-- three tests, each of one field
pub three : {A P Q R : Type 0} (x y : A) (r s t : Bool) → (P → Q → R → x ≡ y) → (x ≡ y → P) → (x ≡ y → Q) → (x ≡ y → R) → Decides r P → Decides s Q → Decides t R → Decides (r && (s && t)) (x ≡ y)
three x y r s t make first second third d e f =
    Decides-like (r && (s && t)) (λ p. make p.0 p.1.0 p.1.1) (λ p. (first p, (second p, third p))) (Decides-and r (s && t) d (Decides-and s t e f))

pub fault_decides : (a b : Fault) → Decides (fault_number a == fault_number b) (a ≡ b)
fault_decides a b = (λ t. faults.same_from_number a b (eqb-true _ _ t), λ e. eq-eqb _ _ (ap fault_number e))

pub operator_decides : (a b : Operator) → Decides (number a == number b) (a ≡ b)
operator_decides a b = (λ t. operators.same_from_number a b (eqb-true _ _ t), λ e. eq-eqb _ _ (ap number e))

pub error_decides : (a b : IntegerError) → Decides (sameb error_type.the_type a b) (a ≡ b)
error_decides a b = (same_true error_type.the_type tt a b, true_same error_type.the_type a b)

-- what `==` answers of two readings of an integer
abbrev eq_of_reading : Result ℤ IntegerError → Result ℤ IntegerError → Bool
eq_of_reading = result_eq int_eq (λ (e f : IntegerError). sameb error_type.the_type e f)

pub reading_decides : (a b : Result ℤ IntegerError) → Decides (eq_of_reading a b) (a ≡ b)
reading_decides (Ok y) (Ok z) = over Ok y z _ (λ e. cc) (signed_Decides y z)
reading_decides (Err e) (Err f) = over Err e f _ (λ e. cc) (error_decides e f)
reading_decides a b = (λ t. absurd (false≢true t), λ e. cc)

pub span_decides : (a b : Span) → Decides ((a.start == b.start) && (a.len == b.len)) (a ≡ b)
span_decides a b =
    both a b _ _ (λ p q i. record { start = p i; len = q i }) (ap (λ x. x.start)) (ap (λ x. x.len)) (unsigned_Decides a.start b.start)
    (unsigned_Decides a.len b.len)

pub header_decides : (a b : Header) → Decides ((a.count == b.count) && (a.capacity == b.capacity)) (a ≡ b)
header_decides a b =
    both a b _ _ (λ p q i. record { count = p i; capacity = q i }) (ap (λ x. x.count)) (ap (λ x. x.capacity))
    (unsigned_Decides a.count b.count) (unsigned_Decides a.capacity b.capacity)

abbrev eq_of_value : Value → Value → Bool
eq_of_value = of_value.ghosts.eq

pub value_decides : (a b : Value) → Decides (eq_of_value a b) (a ≡ b)
value_decides value.Null value.Null = (λ t. refl, λ e. refl)
value_decides (value.Integer y) (value.Integer z) = over value.Integer y z _ (λ e. cc) (signed_Decides y z)
value_decides (value.Boolean b) (value.Boolean c) = over value.Boolean b c _ (λ e. cc) (booleans_Decides b c)
value_decides value.Mark value.Mark = (λ t. refl, λ e. refl)
value_decides (value.Name n) (value.Name m) = over value.Name n m _ (λ e. cc) (unsigned_Decides n m)
value_decides (value.Operator o) (value.Operator p) = over value.Operator o p _ (λ e. cc) (operator_decides o p)
value_decides (value.Array a) (value.Array b) = over value.Array a b _ (λ e. cc) (span_decides a b)
value_decides (value.String a) (value.String b) = over value.String a b _ (λ e. cc) (span_decides a b)
value_decides (value.Dictionary d) (value.Dictionary e) = over value.Dictionary d e _ (λ e. cc) (unsigned_Decides d e)
value_decides (value.Save n) (value.Save m) = over value.Save n m _ (λ e. cc) (unsigned_Decides n m)
value_decides (value.Header h) (value.Header g) = over value.Header h g _ (λ e. cc) (header_decides h g)
value_decides a b = (λ t. absurd (false≢true t), λ e. cc)

abbrev eq_of_object : Object → Object → Bool
eq_of_object = of_object.ghosts.eq

pub object_decides : (a b : Object) → Decides (eq_of_object a b) (a ≡ b)
object_decides a b =
    both a b _ _ (λ p q i. record { value = p i; executable = q i }) (ap (λ x. x.value)) (ap (λ x. x.executable))
    (value_decides a.value b.value) (booleans_Decides a.executable b.executable)
