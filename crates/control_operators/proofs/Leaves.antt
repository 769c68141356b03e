-- The frames that an exit takes down, one at a time.
use Rattle.std.proofs.Common.{◌≡◌, ℕ, zero, suc, ◌+◌, ◌<◌, true, false, List, [], ◌∷◌, length, get_or, position, Some, None, Option, sym, refl, ap, ◌∙◌, arith}
use Rattle.std.proofs.lemmas.Grind.{common_steps}
use Rattle.std.proofs.lemmas.Bool.{false≢true}
use Rattle.std.proofs.lemmas.Option.{get_or_from_slice_get, slice_get-get_or}
use Rattle.std.proofs.lemmas.List.Sums.{fails_before_first}
use Rattle.std.specs.List.{slice_get, position_or_len}
use Rattle.std.proofs.lemmas.List.Quantifiers.{position-Some}
use Rattle.operators.specs.declared.frame.Frame.{Frame}
use Rattle.operators.specs.declared.frame.Frame.TheVariants as frame
use Rattle.control_operators.specs.Frames.{ends_exit, leaving, down_to_loop}

past : (f : Frame) (n : ℕ) (below : Option ℕ) → ends_exit f ≡ false → leaving f n below ≡ below
past (frame.Procedure p) n below e = refl
past (frame.For i j l p) n below e = absurd (false≢true (sym e))
past (frame.Repeat k p) n below e = absurd (false≢true (sym e))
past (frame.Loop p) n below e = absurd (false≢true (sym e))
past (frame.ForallArray a w p) n below e = absurd (false≢true (sym e))
past (frame.ForallString a w p) n below e = absurd (false≢true (sym e))
past (frame.ForallDictionary d i p) n below e = absurd (false≢true (sym e))
past frame.Stopped n below e = absurd (false≢true (sym e))

at_end : (f : Frame) (n m : ℕ) (below : Option ℕ) → n ≡ m → ends_exit f ≡ true → leaving f n below ≡ leaving f m None
at_end (frame.Procedure p) n m below same e = absurd (false≢true e)
at_end (frame.For i j l p) n m below same e = ap (λ k. Some (k + 1)) same
at_end (frame.Repeat c p) n m below same e = ap (λ k. Some (k + 1)) same
at_end (frame.Loop p) n m below same e = ap (λ k. Some (k + 1)) same
at_end (frame.ForallArray a w p) n m below same e = ap (λ k. Some (k + 1)) same
at_end (frame.ForallString a w p) n m below same e = ap (λ k. Some (k + 1)) same
at_end (frame.ForallDictionary d i p) n m below same e = ap (λ k. Some (k + 1)) same
at_end frame.Stopped n m below same e = refl

past_all : (fs : List Frame) (k : ℕ) → position ends_exit fs ≡ None → k < length fs → k < position_or_len ends_exit fs
past_all fs k found l = grind (arith, common_steps, found)

-- procedures' frames alone above the i-th
ends_at : (fs : List Frame) (n i : ℕ) (d : Frame) → i < length fs → ((k : ℕ) → k < i → ends_exit (get_or fs k d) ≡ false) → ends_exit (get_or fs i d) ≡ true → down_to_loop n fs ≡ leaving (get_or fs i d) (n + i) None
unfolding down_to_loop
ends_at [] n i d h above end = absurd (omega arith)
ends_at (f ∷ fs) n zero d h above end = at_end f n (n + 0) _ (omega arith) end
ends_at (f ∷ fs) n (suc i) d h above end =
    let there : n + 1 + i ≡ n + suc i = omega arith in
    past f n _ (above 0 (omega arith)) ∙ ends_at fs (n + 1) i d (omega arith) (λ k l. above (suc k) (omega arith)) end ∙ ap (λ m. leaving (get_or fs i d) m None) there

all_past : (fs : List Frame) (n : ℕ) → ((k : ℕ) (d : Frame) → k < length fs → ends_exit (get_or fs k d) ≡ false) → down_to_loop n fs ≡ None
unfolding down_to_loop
all_past [] n each = refl
all_past (f ∷ fs) n each = past f n _ (each 0 f (omega arith)) ∙ all_past fs (n + 1) (λ k d l. each (suc k) d (omega arith))

pub none_ends : (fs : List Frame) → position ends_exit fs ≡ None → down_to_loop 0 fs ≡ None
none_ends fs found = all_past fs 0 (λ k d l. fails_before_first ends_exit fs k d (past_all fs k found l))

pub some_ends : (fs : List Frame) (i : ℕ) (f : Frame) → position ends_exit fs ≡ Some i → slice_get fs i ≡ Some f → down_to_loop 0 fs ≡ leaving f i None
some_ends fs i f found there =
    let told = position-Some ends_exit fs i f found in
    let same : get_or fs i f ≡ f = get_or_from_slice_get fs i f f there in
    let begun : 0 + i ≡ i = omega arith in
    ends_at fs 0 i f told.0 told.2 told.1 ∙ ap (λ k. leaving (get_or fs i f) k None) begun ∙ ap (λ x. leaving x i None) same

pub not_past : (fs : List Frame) (i : ℕ) → position ends_exit fs ≡ Some i → slice_get fs i ≡ None → ⊥
not_past fs i found none =
    let told = position-Some ends_exit fs i frame.Stopped found in
    let there = slice_get-get_or fs i frame.Stopped told.0 in
    absurd (let z : ◌≡◌ {A = ℕ} 0 1 = cc in omega arith)

pub some_passes : (fs : List Frame) (i : ℕ) (f : Frame) → position ends_exit fs ≡ Some i → slice_get fs i ≡ Some f → ends_exit f ≡ true
some_passes fs i f found there =
    let told = position-Some ends_exit fs i f found in
    let same : get_or fs i f ≡ f = get_or_from_slice_get fs i f f there in
    sym (ap ends_exit same) ∙ told.1

-- a frame at which an exit ends is a loop's, or a stopped frame
pub loop_ends : (f : Frame) (n : ℕ) → (f ≡ frame.Stopped → ⊥) → ends_exit f ≡ true → leaving f n None ≡ Some (n + 1)
loop_ends (frame.Procedure p) n other e = absurd (false≢true e)
loop_ends (frame.For i j l p) n other e = refl
loop_ends (frame.Repeat c p) n other e = refl
loop_ends (frame.Loop p) n other e = refl
loop_ends (frame.ForallArray a w p) n other e = refl
loop_ends (frame.ForallString a w p) n other e = refl
loop_ends (frame.ForallDictionary d i p) n other e = refl
loop_ends frame.Stopped n other e = absurd (other refl)
