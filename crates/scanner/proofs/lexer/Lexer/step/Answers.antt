use Rattle.std.proofs.Common.{◌≡◌, true, false, sym, ◌∙◌, arith}
use Rattle.std.proofs.lemmas.Bool.Decides.{nat_tests}
use Rattle.std.proofs.lemmas.List.{length-take}
use Rattle.scanner.specs.Bytes.{ends_run}
use Rattle.scanner.specs.Machine.{string_bytes}
use Rattle.scanner.specs.Lexemes.{plain, slashed}
use Rattle.scanner.proofs.Steps.{at_between, at_begun, at_body, at_escaped, begun_plain, run_ends, run_goes}
use Rattle.scanner.proofs.lexer.Lexer.step.Goals as goal

pub returns-in-Between-eq91-clause-goes : goal.returns-in-Between-eq91-clause-goes
returns-in-Between-eq91-clause-goes c = λ bs. grind (arith, nat_tests, at_between, at_begun, c.alone.ensures.goes (string_bytes c.args.self.now c.args.used.now) c.args.byte bs)

pub returns-in-Between-eq41-clause-goes : goal.returns-in-Between-eq41-clause-goes
returns-in-Between-eq41-clause-goes c = λ bs. grind (arith, nat_tests, at_between, at_begun)

pub returns-in-Between-eq0-clause-goes : goal.returns-in-Between-eq0-clause-goes
returns-in-Between-eq0-clause-goes c = λ bs. grind (arith, nat_tests, at_between)

pub returns-in-Between-eq0-2-clause-goes : goal.returns-in-Between-eq0-2-clause-goes
returns-in-Between-eq0-2-clause-goes c = λ bs. grind (arith, nat_tests, at_between)

pub returns-in-Between-eq0-3-clause-goes : goal.returns-in-Between-eq0-3-clause-goes
returns-in-Between-eq0-3-clause-goes c = λ bs. grind (arith, nat_tests, at_between)

pub returns-in-Text-eq41-clause-goes : goal.returns-in-Text-eq41-clause-goes
returns-in-Text-eq41-clause-goes c = λ bs. grind (arith, nat_tests, at_body, c.keep.ensures.goes c.args.byte bs)

pub returns-in-Text-eq40-clause-goes : goal.returns-in-Text-eq40-clause-goes
returns-in-Text-eq40-clause-goes c = λ bs. grind (arith, nat_tests, at_body, length-take, c.keep-in-Text-eq40.ensures.goes c.args.byte bs)

pub returns-in-Text-eq13-clause-goes : goal.returns-in-Text-eq13-clause-goes
returns-in-Text-eq13-clause-goes c = λ bs. grind (arith, nat_tests, at_body, c.keep-in-Text-eq13.ensures.goes c.args.byte bs)

pub returns-in-Text-default-clause-goes : goal.returns-in-Text-default-clause-goes
returns-in-Text-default-clause-goes c = λ bs. grind (arith, nat_tests, at_body, c.keep-in-Text-default.ensures.goes c.args.byte bs)

pub returns-in-Escaped-default-clause-goes : goal.returns-in-Escaped-default-clause-goes
returns-in-Escaped-default-clause-goes c = λ bs. grind (arith, nat_tests, at_escaped, c.keep-in-Escaped-default.ensures.goes c.args.byte bs)

pub returns-in-Between-default-clause-goes : goal.returns-in-Between-default-clause-goes
unfolding ends_run
returns-in-Between-default-clause-goes c =
    let e : ends_run c.args.byte ≡ false = grind (arith, nat_tests) in
    λ bs. c.first.ensures.goes (string_bytes c.args.self.now c.args.used.now) c.args.byte bs ∙ rw c.in-Between-default.is-0 (sym (begun_plain _ _ bs e))

pub returns-in-Plain-default-clause-goes : goal.returns-in-Plain-default-clause-goes
returns-in-Plain-default-clause-goes c =
    let e : ends_run c.args.byte ≡ true = grind arith in
    λ bs. rw c.in-Plain-default.is-0 (run_ends plain _ _ bs _ _ e c.plain.ensures)

pub returns-in-Plain-default-2-clause-goes : goal.returns-in-Plain-default-2-clause-goes
returns-in-Plain-default-2-clause-goes c =
    let e : ends_run c.args.byte ≡ false = grind arith in
    λ bs. c.gather.ensures.goes (string_bytes c.args.self.now c.args.used.now) c.args.byte bs ∙ rw c.in-Plain-default-2.is-0 (run_goes plain _ _ bs _ e)

pub returns-in-Slashed-default-clause-goes : goal.returns-in-Slashed-default-clause-goes
returns-in-Slashed-default-clause-goes c =
    let e : ends_run c.args.byte ≡ true = grind arith in
    λ bs. rw c.in-Slashed-default.is-0 (run_ends slashed _ _ bs _ _ e c.slashed.ensures)

pub returns-in-Slashed-default-2-clause-goes : goal.returns-in-Slashed-default-2-clause-goes
returns-in-Slashed-default-2-clause-goes c =
    let e : ends_run c.args.byte ≡ false = grind arith in
    λ bs. c.gather-in-Slashed-default-2.ensures.goes (string_bytes c.args.self.now c.args.used.now) c.args.byte bs ∙ rw c.in-Slashed-default-2.is-0 (run_goes slashed _ _ bs _ e)
