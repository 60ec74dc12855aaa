-- Choices and tests as equations with `true` and `false`, for any property: laws that mention no model. `Tests` has those that are said by `T`.
use Rattle.std.specs.Prelude.{ℕ, Bool, true, false, not, ◌&&◌, ◌||◌, T, eqb}
use mathlib.Core.Path.{◌≡◌, refl, sym, ◌∙◌}
use Rattle.std.proofs.Common.{eqb→eq}
use Rattle.std.proofs.Math.Dec.{eqb_refl}
use Rattle.floats.specs.Num.{choose}

pub both : {A : Type 0} (P : A → Type 0) (b : Bool) {x y : A} → P x → P y → P (choose b x y)
unfolding choose
both P true p q = p
both P false p q = q

-- with the test, where a side needs it
pub taking : {A : Type 0} (P : A → Type 0) (b : Bool) {x y : A} → (b ≡ true → P x) → (b ≡ false → P y) → P (choose b x y)
unfolding choose
taking P true p q = p refl
taking P false p q = q refl

pub chosen : {A : Type 0} {b : Bool} (x y : A) → b ≡ true → choose b x y ≡ x
unfolding choose
chosen x y e = rw e

pub left : {A : Type 0} {b : Bool} (x y : A) → b ≡ false → choose b x y ≡ y
unfolding choose
left x y e = rw e

abbrev Only : Bool → Type 0
Only true = Unit {0}
Only false = ⊥

pub true≢false : {b : Bool} {A : Type 0} → b ≡ true → b ≡ false → A
true≢false {b} p q = absurd (mathlib.Core.Path.subst Only (sym p ∙ q) tt)

pub and_left : (a b : Bool) → a && b ≡ true → a ≡ true
and_left true b e = refl
and_left false b e = e

pub and_right : (a b : Bool) → a && b ≡ true → b ≡ true
and_right true b e = e
and_right false b e = true≢false e refl

pub or_left : (a b : Bool) → a || b ≡ false → a ≡ false
or_left true b e = true≢false refl e
or_left false b e = refl

pub or_right : (a b : Bool) → a || b ≡ false → b ≡ false
or_right true b e = true≢false refl e
or_right false b e = e

pub or_true_left : (a b : Bool) → a ≡ true → a || b ≡ true
or_true_left true b e = refl
or_true_left false b e = true≢false e refl

pub or_true_right : (a b : Bool) → b ≡ true → a || b ≡ true
or_true_right true b e = refl
or_true_right false b e = e

pub and_false : (a b : Bool) → b ≡ false → a && b ≡ false
and_false true b e = e
and_false false b e = refl

pub not_not : (a : Bool) → not a ≡ false → a ≡ true
not_not true e = refl
not_not false e = true≢false refl e

-- ---- tests that are computed
bool_true : (b : Bool) → T b → b ≡ true
bool_true true t = refl
bool_true false t = elim t [ ]

pub bool_false : (b : Bool) → (T b → ⊥) → b ≡ false
bool_false true f = absurd (f tt)
bool_false false f = refl

pub equal : (n : ℕ) → eqb n n ≡ true
equal n = bool_true (eqb n n) (eqb_refl n)

pub unequal : (m n : ℕ) → (m ≡ n → ⊥) → eqb m n ≡ false
unequal m n f = bool_false (eqb m n) (λ t. f (eqb→eq m n t))
