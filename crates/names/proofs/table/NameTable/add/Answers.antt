use Rattle.std.proofs.Common.{◌≡◌, ◌∷◌, [], ◌++◌, length, get_or, None, refl, sym, ap, ◌∙◌, rules, arith}
use Rattle.names.specs.declared.entry.Entry.{Entry}
use Rattle.names.specs.Index.{bucket_of}
use Rattle.names.specs.Names.{place_of}
use Rattle.names.proofs.Sound.{added, sound_added}
use Rattle.names.proofs.Tables.{room_says, names_many}
use Rattle.names.proofs.table.NameTable.add.Goals as goal

pub push-requires : goal.push-requires
push-requires c =
    let room = room_says _ _ _ _ _ c.self.invariant c.self.view_is c.args.text.now c.requires.room in
    (omega arith, room.0)

pub invariant_of-self : goal.invariant_of-self
invariant_of-self c =
    let t = c.self.inside in
    let text = c.args.text.now in
    let room = room_says _ _ _ _ _ c.self.invariant c.self.view_is text c.requires.room in
    let entry : Entry = record { place = record { start = t.used; len = length text }; operator = c.named.result; next = get_or t.heads (bucket_of text) None } in
    let there : c.bucket-bucket.result ≡ bucket_of text = c.bucket-bucket.ensures.number in
    rw (c.copy_in.ensures, c.push.ensures.items, c.len-number.ensures.value, there)
    (sound_added t.bytes t.entries.items t.heads t.used text entry c.self.invariant (search rules) (search rules) (ap (place_of text) c.self.view_is ∙ c.requires.new) room.2 refl refl c.named.ensures.answer refl (search rules))

pub returns-clause-number : goal.returns-clause-number
returns-clause-number c = c.len-number.ensures.value ∙ sym (names_many _ _ _ _ _ c.self.invariant c.self.view_is)

pub returns-clause-after : goal.returns-clause-after
returns-clause-after c =
    let t = c.self.inside in
    let text = c.args.text.now in
    let room = room_says _ _ _ _ _ c.self.invariant c.self.view_is text c.requires.room in
    let entry : Entry = record { place = record { start = t.used; len = length text }; operator = c.named.result; next = get_or t.heads (bucket_of text) None } in
    let there : c.bucket-bucket.result ≡ bucket_of text = c.bucket-bucket.ensures.number in
    rw (c.copy_in.ensures, c.push.ensures.items, there)
    (added t.bytes t.entries.items t.heads t.used text entry c.self.invariant (search rules) (search rules) (ap (place_of text) c.self.view_is ∙ c.requires.new) room.2 refl refl c.named.ensures.answer refl (search rules) ∙ ap (λ ns. ns ++ text ∷ []) c.self.view_is)
