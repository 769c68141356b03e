use Rattle.std.proofs.Common.{◌≡◌, length, sym, ap, ◌∙◌}
use Rattle.scanner.specs.Machine.{piece, string_bytes}
use Rattle.scanner.specs.Reads.{in_progress, strings_read}
use Rattle.scanner.specs.Sources.{to_come}
use Rattle.scanner.specs.Stocks.{heard}
use Rattle.scanner.specs.Tokens.{by_outcome}
use Rattle.scanner.proofs.Turns.{turned, shrinks}
use Rattle.scanner.proofs.buffers.Buffers.advance.Goals as goal

pub returns : goal.returns
returns c =
    let x = piece c.lexeme.new.self.cursor.run c.in_ok-lexeme.lexeme in
    let out = strings_read c.args.self.now c.args.counts.now in
    let out' = string_bytes c.lexeme.new.self c.lexeme.new.used in
    let bs = to_come c.args.source.now in
    let left = to_come c.lexeme.new.source in
    let names = c.args.names.now in
    let names' = c.meet.new.names in
    let p = in_progress c.args.self.now c.args.counts.now in
    let o = heard c.meet.new.self.stock c.meet.new.counts.tally c.meet.result in
    let read = c.in_ok-lexeme.ensures.reading in
    let is = c.meet.ensures.outcome in
    let counted = c.in_ok-lexeme.ensures.counted c.requires in
    let same : strings_read c.meet.new.self c.meet.new.counts ≡ out' = λ i. string_bytes (c.meet.ensures.lexer i) (c.meet.ensures.strings i) in
    record {
      turned = λ more.
          ap (λ l. by_outcome o names' l left (λ q. more names' q l left)) same
          ∙ turned x out out' bs left names p o c.args.counts.now.strings c.lexeme.new.used read is names' more c.requires counted c.meet.ensures.joined;
      counted = ap length same ∙ counted ∙ sym c.meet.ensures.strings;
      whole = c.in_ok-lexeme.ensures.whole;
      shorter = λ e. shrinks x out out' bs left names p o c.args.counts.now.strings c.lexeme.new.used read is _ (ap (heard c.meet.new.self.stock c.meet.new.counts.tally) e);
    }
