use Rattle.std.proofs.Common.{suc, [], length, sym, ap, ◌∙◌, subst}
use Rattle.scanner.specs.Laws.{NamesJoin, Taken}
use Rattle.scanner.specs.Sources.{to_come}
use Rattle.scanner.specs.Tokens.{Scanned, no_procedures}
use Rattle.scanner.proofs.Cutting.{stands_alone}
use Rattle.scanner.proofs.Grammar.{follows_grammar}
use Rattle.scanner.proofs.Integers.{decimals_return}
use Rattle.scanner.proofs.Laws.{blanks_vanish, names_join}
use Rattle.scanner.specs.Sound.{Sound}
use Rattle.scanner.proofs.Soundness.{pieces_sound}
use Rattle.scanner.proofs.Taking.{from_front}
use Rattle.scanner.proofs.Turns.{scanned_names, scanned_left}
use Rattle.scanner.proofs.scratch.Scratch.next_token.Goals as goal

pub returns : goal.returns
returns c =
    let names = c.args.names.now in
    let bs = to_come c.args.source.now in
    let names' = c.token.new.names in
    let bs' = to_come c.token.new.source in
    let told = c.token.ensures.reading in
    record {
      reading = told ∙ follows_grammar names bs;
      counters = c.drop-guard.ensures;
      joined = subst (NamesJoin bs names) (sym (ap (λ (s : Scanned). s.names) told) ∙ scanned_names c.token.new.self names' bs' c.token.result) (names_join names bs);
      taken = subst (Taken bs) (sym (ap (λ (s : Scanned). s.left) told) ∙ scanned_left c.token.new.self names' bs' c.token.result) (from_front (suc (length bs)) names no_procedures [] bs);
      whole = c.token.ensures.whole;
      sound = subst Sound (sym told) (pieces_sound names bs);
      blanks = blanks_vanish;
      alone = stands_alone;
      decimals = decimals_return;
    }
