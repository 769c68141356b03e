-- The level that an excursion starts from stays open, and what it keeps stays what it was.
use Rattle.std.proofs.Common.{◌≡◌, ℕ, suc, ◌+◌, ◌<◌, ◌≤◌, Bool, true, false, cond, eqb, ltb, List, [], ◌∷◌, ◌++◌, length, get_or, take, drop, set, Ok, Err, Result, sym, refl, ap, ◌∙◌, subst, inl, inr, arith}
use Rattle.std.proofs.lemmas.List.{at_drop_more, at_drop_all, length-set, length-take, length_push, get_or-set_same, get_or-set_other, take_all, take_at, take-take, take-append-le, get_or-take, get_or_push}
use Rattle.std.proofs.lemmas.Bool.{cond_both, ltb-true, cases_eq, lt-ltb, eq-eqb, ne_eqb}
use Rattle.objects.specs.Outcomes.{after, heard}
use Rattle.objects.specs.declared.fault.Fault.{Fault}
use Rattle.objects.specs.declared.fault.Fault.TheVariants.{LimitCheck, InvalidRestore}
use Rattle.objects.specs.declared.object.Object.{Object}
use Rattle.keepers.specs.Kept.{Kept, with_slots, with_bytes, with_levels, put_byte, open_level, back_to}
use Rattle.keepers.proofs.Outcomes.{accepted_heard, accepted_after}
use Rattle.keepers.proofs.Kept.{after_put_slot, after_put_byte, after_open, after_back}
use Rattle.keepers.specs.Excursions.{moved, played, last_put, AsBefore, ComesBack}
use Rattle.keepers.specs.declared.excursion.Move.{Move}
use Rattle.keepers.specs.declared.excursion.Move.TheVariants.{PutSlot, PutByte, Open, Back}

-- the first levels are still those that were there
pub record Still (first : List (List Object)) (k : Kept) : Type 0 where
  pub many : length first ≤ length k.levels
  pub front : take (length first) k.levels ≡ first

module _ (first : List (List Object)) where
  still_same : (k l : Kept) → l.levels ≡ k.levels → Still first k → Still first l
  still_same k l e s = record { many = subst (λ (x : List (List Object)). length first ≤ length x) (sym e) s.many; front = ap (take (length first)) e ∙ s.front }

  still_open : (k : Kept) → Still first k → Still first (with_levels (k.levels ++ k.slots ∷ []) k)
  still_open k s = let a = s.many in record {
    many = let e = length_push k.levels k.slots in omega arith;
    front = take-append-le (length first) k.levels _ a ∙ s.front;
  }

  still_back : (k : Kept) (slots : List Object) (to : ℕ) → length first ≤ to → Still first k → Still first (with_slots slots (with_levels (take to k.levels) k))
  still_back k slots to h s = let a = s.many in record {
    many = let e = length-take to k.levels in omega arith;
    front = take-take (length first) to k.levels h ∙ s.front;
  }

  still_moved : (from : ℕ) (m : Move) (k : Kept) → length first ≡ suc from → Still first k → Still first (moved from m k)
  still_moved from (PutSlot at o) k e s = after_put_slot (Still first) k at o (λ _. still_same k (with_slots (set k.slots at o) k) refl s) (λ _. s)
  still_moved from (PutByte at b) k e s = after_put_byte (Still first) k at b (λ _. still_same k (with_bytes (set k.bytes at b) k) refl s) (λ _. s)
  still_moved from Open k e s = after_open (Still first) k (λ _. still_open k s) (λ _. s)
  still_moved from (Back to) k e s =
      cond_both (ltb from to) (after (back_to to k) k) k (Still first)
      (λ t. let more = ltb-true from to t in after_back (Still first) k to (λ _. still_back k _ to (omega arith) s) (λ _. s))
      (λ _. s)

  pub still_played : (from : ℕ) (ms : List Move) (k : Kept) → length first ≡ suc from → Still first k → Still first (played from ms k)
  unfolding played
  still_played from [] k e s = s
  still_played from (m ∷ ms) k e s = still_played from ms (moved from m k) e (still_moved from m k e s)

-- no move changes the limit
limit_moved : (from : ℕ) (m : Move) (k : Kept) → (moved from m k).limit ≡ k.limit
limit_moved from (PutSlot at o) k = after_put_slot (λ l. l.limit ≡ k.limit) k at o (λ _. refl) (λ _. refl)
limit_moved from (PutByte at b) k = after_put_byte (λ l. l.limit ≡ k.limit) k at b (λ _. refl) (λ _. refl)
limit_moved from Open k = after_open (λ l. l.limit ≡ k.limit) k (λ _. refl) (λ _. refl)
limit_moved from (Back to) k = cond_both (ltb from to) (after (back_to to k) k) k (λ l. l.limit ≡ k.limit) (λ _. after_back (λ l. l.limit ≡ k.limit) k to (λ _. refl) (λ _. refl)) (λ _. refl)

pub limit_played : (from : ℕ) (ms : List Move) (k : Kept) → (played from ms k).limit ≡ k.limit
unfolding played
limit_played from [] k = refl
limit_played from (m ∷ ms) k = limit_played from ms (moved from m k) ∙ limit_moved from m k

-- what one move does to byte i
abbrev byte_put : ℕ → Move → ℕ → ℕ
byte_put i (PutSlot at o) b = b
byte_put i (PutByte at c) b = cond (eqb at i) c b
byte_put i Open b = b
byte_put i (Back to) b = b

record Bytes (m : Move) (k l : Kept) : Type 0 where
  pub long : length l.bytes ≡ length k.bytes
  pub each : (i : ℕ) → i < length k.bytes → get_or l.bytes i 0 ≡ byte_put i m (get_or k.bytes i 0)

put_one : (xs : List ℕ) (at c i : ℕ) → i < length xs → get_or (set xs at c) i 0 ≡ cond (eqb at i) c (get_or xs i 0)
put_one xs at c i h =
    elim (cases_eq i at) [
      | inl here ↦
          let e : eqb at i ≡ true = eq-eqb _ _ (sym here) in
          rw (e, here) (get_or-set_same xs at c 0 (omega arith))
      | inr there ↦
          let e : eqb at i ≡ false = ne_eqb _ _ (λ p. there (sym p)) in
          rw e (get_or-set_other xs at i c 0 there)
    ]

put_none : (xs : List ℕ) (at c i : ℕ) → length xs ≤ at → i < length xs → get_or xs i 0 ≡ cond (eqb at i) c (get_or xs i 0)
put_none xs at c i outside h = let e : eqb at i ≡ false = ne_eqb _ _ (λ p. omega arith) in rw e refl

put_byte_bytes : (k : Kept) (at c : ℕ) → Bytes (PutByte at c) k (after (put_byte at c k) k)
put_byte_bytes k at c =
    after_put_byte (Bytes (PutByte at c) k) k at c
    (λ _. record { long = length-set k.bytes at c; each = λ i h. put_one k.bytes at c i h })
    (λ outside. record { long = refl; each = λ i h. put_none k.bytes at c i outside h })

bytes_moved : (from : ℕ) (m : Move) (k : Kept) → Bytes m k (moved from m k)
bytes_moved from (PutSlot at o) k = after_put_slot (Bytes (PutSlot at o) k) k at o (λ _. record { long = refl; each = λ _ _. refl }) (λ _. record { long = refl; each = λ _ _. refl })
bytes_moved from (PutByte at c) k = put_byte_bytes k at c
bytes_moved from Open k = after_open (Bytes Open k) k (λ _. record { long = refl; each = λ _ _. refl }) (λ _. record { long = refl; each = λ _ _. refl })
bytes_moved from (Back to) k =
    cond_both (ltb from to) (after (back_to to k) k) k (Bytes (Back to) k)
    (λ _. after_back (Bytes (Back to) k) k to (λ _. record { long = refl; each = λ _ _. refl }) (λ _. record { long = refl; each = λ _ _. refl }))
    (λ _. record { long = refl; each = λ _ _. refl })

last_put_more : (i : ℕ) (m : Move) (ms : List Move) (b : ℕ) → last_put i (m ∷ ms) b ≡ last_put i ms (byte_put i m b)
unfolding last_put
last_put_more i (PutSlot at o) ms b = refl
last_put_more i (PutByte at c) ms b = refl
last_put_more i Open ms b = refl
last_put_more i (Back to) ms b = refl

pub record LastPut (ms : List Move) (k l : Kept) : Type 0 where
  pub long : length l.bytes ≡ length k.bytes
  pub each : (i : ℕ) → i < length k.bytes → get_or l.bytes i 0 ≡ last_put i ms (get_or k.bytes i 0)

pub bytes_played : (from : ℕ) (ms : List Move) (k : Kept) → LastPut ms k (played from ms k)
unfolding played last_put
bytes_played from [] k = record { long = refl; each = λ _ _. refl }
bytes_played from (m ∷ ms) k =
    let one = bytes_moved from m k in
    let rest = bytes_played from ms (moved from m k) in
    let same = one.long in
    record {
      long = rest.long ∙ one.long;
      each = λ i h. rest.each i (omega arith) ∙ ap (last_put i ms) (one.each i h) ∙ sym (last_put_more i m ms (get_or k.bytes i 0));
    }

-- one move more of the list, and all of them made
pub played_more : (from : ℕ) (ms : List Move) (i : ℕ) (d : Move) (k : Kept) → i < length ms → played from (drop (i + 1) ms) (moved from (get_or ms i d) k) ≡ played from (drop i ms) k
unfolding played
played_more from ms i d k h = sym (at_drop_more (λ l. played from l k) ms i d h)

pub played_all : (from : ℕ) (ms : List Move) (i : ℕ) (k : Kept) → length ms ≤ i → played from (drop i ms) k ≡ k
unfolding played
played_all from ms i k h = at_drop_all (λ l. played from l k) ms i h

accepted_since : {M F : Type 0} (b : Bool) (x : M) (f : F) → Ok tt ≡ heard (cond b (Ok x) (Err f)) → b ≡ true
accepted_since true x f e = refl
accepted_since false x f e = absurd (let z : ◌≡◌ {A = ℕ} 0 1 = cc in omega arith)

-- a level was opened, moves were made, and the way back taken
module _ (ms : List Move) (k l m n : Kept) (level : ℕ) (r : Result (Unit {0}) Fault) where
  pub comes_back : level ≡ length k.levels → Ok tt ≡ heard (open_level k) → l ≡ after (open_level k) k → m ≡ played level ms l → r ≡ heard (back_to level m) → n ≡ after (back_to level m) m → ComesBack ms k n r
  comes_back is opened left made answer back =
      let first = k.levels ++ k.slots ∷ [] in
      let more = with_levels first k in
      let test = accepted_since (ltb (length k.levels) k.limit) more LimitCheck opened in
      let start : l ≡ more = left ∙ sym (accepted_after _ more LimitCheck k test) in
      let long : length first ≡ suc level = length_push k.levels k.slots ∙ omega arith in
      let there : m ≡ played level ms more = made ∙ ap (played level ms) start in
      let still : Still first m = subst (Still first) (sym there) (still_played first level ms more long (record { many = omega arith; front = take_all (length first) first (omega arith) })) in
      let many = still.many in
      let inside = lt-ltb level (length m.levels) (omega arith) in
      let end = with_slots (get_or m.levels level []) (with_levels (take level m.levels) m) in
      let home : n ≡ end = back ∙ sym (accepted_after _ end InvalidRestore m inside) in
      let heard-ok : r ≡ Ok tt = answer ∙ sym (accepted_heard _ end InvalidRestore inside) in
      let slots : get_or m.levels level [] ≡ k.slots = sym (get_or-take (length first) m.levels level [] (omega arith)) ∙ ap (λ x. get_or x level []) still.front ∙ get_or_push k.levels k.slots [] level (sym is) in
      let levels : take level m.levels ≡ k.levels = sym (take-take level (length first) m.levels (omega arith)) ∙ ap (take level) still.front ∙ take_at k.levels (k.slots ∷ []) level (sym is) in
      let last = bytes_played level ms more in
      let bytes : m.bytes ≡ (played level ms more).bytes = ap (λ x. x.bytes) there in
      let all : AsBefore ms k end = record {
        room = ltb-true _ _ test;
        slots = slots;
        levels = levels;
        limit = ap (λ x. x.limit) there ∙ limit_played level ms more;
        long = ap length bytes ∙ last.long;
        bytes = λ i h. ap (λ x. get_or x i 0) bytes ∙ last.each i h;
      } in
      subst (ComesBack ms k n) (sym heard-ok) (subst (AsBefore ms k) (sym home) all)
