-- Texts that go out, where they have room, and where they have none.
use Rattle.std.proofs.Common.{◌≡◌, ℕ, ◌+◌, ◌<◌, ◌≤◌, cond, leb, List, [], ◌∷◌, ◌++◌, length, Ok, Err, Result, sym, refl, ap, ◌∙◌, inl, inr, arith}
use Rattle.std.proofs.lemmas.List.{append-nil, append_assoc, length-append}
use Rattle.std.proofs.lemmas.Bool.{cases_Bool, le-leb, lt-leb}
use Rattle.objects.specs.Outcomes.{after, heard}
use Rattle.objects.specs.declared.fault.Fault.{Fault}
use Rattle.objects.specs.declared.fault.Fault.TheVariants.{IoError}
use Rattle.stacks.specs.Printed.{appended}

roomy : (text out : List ℕ) → length out + length text ≤ 4096 → appended text out ≡ Ok (out ++ text)
roomy text out h = ap (λ b. cond b (Ok (out ++ text)) (Err IoError)) (le-leb _ _ h)

full : (text out : List ℕ) → 4096 < length out + length text → appended text out ≡ Err IoError
full text out h = ap (λ b. cond b (Ok (out ++ text)) (Err IoError)) (lt-leb _ _ h)

-- one more byte of what has room
pub byte_out : (old text rest out new more : List ℕ) (b : ℕ) → length old + length text ≤ 4096 → out ++ rest ≡ old ++ text → rest ≡ b ∷ more → new ≡ after (appended (b ∷ []) out) out → new ++ more ≡ old ++ text
byte_out old text rest out new more b room before first state =
    let whole = ap length before in
    let left = ap length first in
    let sizes = length-append out rest in
    let all = length-append old text in
    let one : length {A = ℕ} (b ∷ []) ≡ 1 = refl in
    let longer : length (b ∷ more) ≡ length more + 1 = omega arith in
    ap (λ ys. ys ++ more) (state ∙ ap (λ r. after r out) (roomy (b ∷ []) out (omega arith))) ∙ append_assoc out (b ∷ []) more ∙ ap (λ ys. out ++ ys) (sym first) ∙ before

-- what a text that goes out answers and leaves
pub record Out (text old new : List ℕ) (r : Result (Unit {0}) Fault) : Type 0 where
  pub answer : r ≡ heard (appended text old)
  pub state : new ≡ after (appended text old) old

pub fits : (xs end old mid new : List ℕ) (r : Result (Unit {0}) Fault) → length old + (length xs + length end) ≤ 4096 → mid ≡ old ++ xs → r ≡ heard (appended end mid) → new ≡ after (appended end mid) mid → Out (xs ++ end) old new r
fits xs end old mid new r room before answer state =
    let size : length mid ≡ length old + length xs = ap length before ∙ length-append old xs in
    let both = length-append xs end in
    let last = roomy end mid (omega arith) in
    let all = roomy (xs ++ end) old (omega arith) in
    record {
      answer = answer ∙ ap heard last ∙ sym (ap heard all);
      state = state ∙ ap (λ x. after x mid) last ∙ ap (λ ys. ys ++ end) before ∙ append_assoc old xs end ∙ sym (ap (λ x. after x old) all);
    }

pub misfits : (xs end old : List ℕ) → 4096 < length old + (length xs + length end) → Out (xs ++ end) old old (Err IoError)
misfits xs end old room =
    let both = length-append xs end in
    let none = full (xs ++ end) old (omega arith) in
    record { answer = sym (ap heard none); state = sym (ap (λ x. after x old) none) }

-- what was out stays out
pub more_out : (text old new : List ℕ) → new ≡ after (appended text old) old → (more : List ℕ) × (new ≡ old ++ more)
more_out text old new state =
    elim (cases_Bool (leb (length old + length text) 4096)) [
      | inl fits ↦ (text, state ∙ ap (λ b. after (cond b (Ok (old ++ text)) (Err IoError)) old) fits)
      | inr not ↦ ([], state ∙ ap (λ b. after (cond b (Ok (old ++ text)) (Err IoError)) old) not ∙ sym (append-nil old))
    ]
