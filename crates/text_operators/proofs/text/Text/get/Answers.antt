use Rattle.std.proofs.Common.{◌≡◌, ◌+◌, Some, sym, ap, ◌∙◌, arith}
use Rattle.std.proofs.lemmas.Option.{slice_get-get_or, slice_get_past}
use Rattle.std.specs.List.{slice_get}
use Rattle.operators.specs.Texts.{byte_in, text_of}
use Rattle.text_operators.specs.Texts.{bytes_of}
use Rattle.text_operators.proofs.Bytes.{bytes_length, byte_of}
use Rattle.text_operators.proofs.text.Text.get.Goals as goal

pub returns-then-i-from-clause-byte : goal.returns-then-i-from-clause-byte
returns-then-i-from-clause-byte g c =
    let m = c.args.memory.now in
    let span = c.in-String.span in
    let i = c.args.i in
    let size = bytes_length span.start span.len m in
    let here = byte_of span.start span.len i m (omega arith) in
    let read : c.byte.result ≡ byte_in m (span.start + i) =
    let from = c.from-then-i-from.ensures in
    let byte = c.byte.ensures in
    cc in
    ap Some (read ∙ sym here) ∙ sym (slice_get-get_or (text_of span m) i 0 (omega arith)) ∙ ap (λ t. slice_get (bytes_of t m) i) (sym c.in-String.is)

pub returns-else-i-from-clause-byte : goal.returns-else-i-from-clause-byte
returns-else-i-from-clause-byte g c =
    let m = c.args.memory.now in
    let span = c.in-String.span in
    let size = bytes_length span.start span.len m in
    sym (slice_get_past (text_of span m) c.args.i (omega arith)) ∙ ap (λ t. slice_get (bytes_of t m) c.args.i) (sym c.in-String.is)
