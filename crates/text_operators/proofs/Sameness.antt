-- Sameness on a machine is an equivalence: by letters where there are letters, by value elsewhere.
use Rattle.std.proofs.Common.{◌≡◌, ℕ, Bool, true, false, cond, eqb, List, [], ◌∷◌, get_or, ℤ, pos, negsuc, Some, None, Decides, Option, sym, refl, ap, ◌∙◌, inl, inr}
use Rattle.std.proofs.lemmas.Slice.Eq.{bytes_eq-Decides}
use Rattle.std.proofs.lemmas.Bool.{cases_Bool, false≢true}
use Rattle.std.proofs.lemmas.Bool.Decides.{same_from_decides, Decides-at, Decides-like}
use Rattle.std.specs.Str.{bytes_eq}
use Rattle.objects.proofs.Operators.{named_name}
use Rattle.objects.specs.Operators.{operator_named}
use Rattle.objects.specs.declared.object.Value.{Value}
use Rattle.objects.specs.declared.object.Value.TheVariants as value
use Rattle.objects.specs.declared.operator.Operator.{Operator}
use Rattle.operators.specs.States.{State}
use Rattle.text_operators.specs.Equality.{numbers, same_value, same_by, letters, Sameness}

-- the value again, from its numbers

abbrev integer_from : ℕ → ℕ → ℤ
integer_from sign n = cond (eqb sign 0) (pos n) (negsuc n)

abbrev operator_from : Option Operator → Value
operator_from None = value.Null
operator_from (Some o) = value.Operator o

abbrev value_from : ℕ → ℕ → ℕ → List ℕ → Value
value_from type x y all =
    cond (eqb type 1) (value.Integer (integer_from x y)) (cond (eqb type 2) (value.Boolean (eqb x 1)) (cond (eqb type 3) value.Mark (cond (eqb type 4) (value.Name x)
    (cond (eqb type 5) (operator_from (operator_named all)) (cond (eqb type 6) (value.Array (record { start = x; len = y })) (cond (eqb type 7) (value.String (record { start = x; len = y }))
    (cond (eqb type 8) (value.Dictionary x) (cond (eqb type 9) (value.Save x) (cond (eqb type 10) (value.Header (record { count = x; capacity = y })) value.Null)))))))))

abbrev from_numbers : List ℕ → Value
from_numbers [] = value.Null
from_numbers (type ∷ rest) = value_from type (get_or rest 0 0) (get_or rest 1 0) rest

back : (v : Value) → from_numbers (numbers v) ≡ v
back value.Null = refl
back (value.Integer (pos n)) = refl
back (value.Integer (negsuc n)) = refl
back (value.Boolean true) = refl
back (value.Boolean false) = refl
back value.Mark = refl
back (value.Name n) = refl
back (value.Operator o) = ap operator_from (named_name o)
back (value.Array a) = refl
back (value.String a) = refl
back (value.Dictionary d) = refl
back (value.Save n) = refl
back (value.Header h) = refl

pub same_value_decides : (a b : Value) → Decides (same_value a b) (a ≡ b)
unfolding same_value
same_value_decides a b =
    let both = bytes_eq-Decides (numbers a) (numbers b) in
    (λ t. sym (back a) ∙ ap from_numbers (both.0 t) ∙ back b, λ e. both.1 (ap numbers e))

-- texts

pub not_same : (xs ys : List ℕ) → (xs ≡ ys → ⊥) → false ≡ bytes_eq xs ys
not_same xs ys apart = elim (cases_Bool (bytes_eq xs ys)) [ inl t ↦ absurd (apart ((bytes_eq-Decides xs ys).0 t)) | inr f ↦ sym f ]

bytes_either_way : (xs ys : List ℕ) → bytes_eq xs ys ≡ bytes_eq ys xs
bytes_either_way xs ys = same_from_decides _ _ (bytes_eq-Decides xs ys) (Decides-like _ sym sym (bytes_eq-Decides ys xs))

-- the laws

itself_by : (o : Option (List ℕ)) (t : Bool) → t ≡ true → same_by o o t ≡ true
itself_by (Some x) t h = (bytes_eq-Decides x x).1 refl
itself_by None t h = h

either_by : (o p : Option (List ℕ)) (t u : Bool) → t ≡ u → same_by o p t ≡ same_by p o u
either_by (Some x) (Some y) t u h = bytes_either_way x y
either_by (Some x) None t u h = refl
either_by None (Some y) t u h = refl
either_by None None t u h = h

onward_by : (o p q : Option (List ℕ)) (t u v : Bool) → (t ≡ true → u ≡ true → v ≡ true) → same_by o p t ≡ true → same_by p q u ≡ true → same_by o q v ≡ true
onward_by (Some x) (Some y) (Some z) t u v h a b = (bytes_eq-Decides x z).1 ((bytes_eq-Decides x y).0 a ∙ (bytes_eq-Decides y z).0 b)
onward_by (Some x) (Some y) None t u v h a b = b
onward_by (Some x) None q t u v h a b = absurd (false≢true a)
onward_by None (Some y) q t u v h a b = absurd (false≢true a)
onward_by None None (Some z) t u v h a b = b
onward_by None None None t u v h a b = h a b

letters_by : (o p : Option (List ℕ)) (t : Bool) (x y : List ℕ) → o ≡ Some x → p ≡ Some y → Decides (same_by o p t) (x ≡ y)
letters_by o p t x y g h = Decides-at _ _ (ap (λ z. same_by z p t) g ∙ ap (λ z. same_by (Some x) z t) h) (bytes_eq-Decides x y)

value_by : (P : Type 0) (o p : Option (List ℕ)) (t : Bool) → o ≡ None → p ≡ None → Decides t P → Decides (same_by o p t) P
value_by P o p t g h d = Decides-at _ _ (ap (λ z. same_by z p t) g ∙ ap (λ z. same_by None z t) h) d

pub by_value_alone : (o p : Option (List ℕ)) (t r : Bool) → o ≡ None → p ≡ None → r ≡ t → r ≡ same_by o p t
by_value_alone o p t r g h value = value ∙ sym (ap (λ z. same_by z p t) g ∙ ap (λ z. same_by None z t) h)

apart_by : (o p : Option (List ℕ)) (t : Bool) (x : List ℕ) → o ≡ Some x → p ≡ None → same_by o p t ≡ false
apart_by o p t x g h = ap (λ z. same_by z p t) g ∙ ap (λ z. same_by (Some x) z t) h

pub sameness : (s : State) → Sameness s
sameness s = record {
  itself = λ a. itself_by (letters a s) _ ((same_value_decides a a).1 refl);
  either_way = λ a b. either_by (letters a s) (letters b s) _ _ (same_from_decides _ _ (same_value_decides a b) (Decides-like _ sym sym (same_value_decides b a)));
  onward = λ a b c. onward_by (letters a s) (letters b s) (letters c s) _ _ _ (λ p q. (same_value_decides a c).1 ((same_value_decides a b).0 p ∙ (same_value_decides b c).0 q));
  by_letters = λ a b x y. letters_by (letters a s) (letters b s) _ x y;
  by_value = λ a b g h. value_by (a ≡ b) (letters a s) (letters b s) _ g h (same_value_decides a b);
  apart = λ a b x. apart_by (letters a s) (letters b s) _ x;
}
