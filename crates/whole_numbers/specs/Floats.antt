-- The code's tests of one float are the definition's, which go by value.
use Rattle.std.specs.Prelude.{ℕ, ◌+◌, ◌≡◌, refl, Bool, true, false, not, ◌&&◌, List, T, leb, ℤ, pos, Float}
use Rattle.std.proofs.Common.{add-zero, sym, ap, ◌∙◌, subst, eqb→eq}
use Rattle.std.proofs.lemmas.Bool.{false≢true}
use Rattle.std.proofs.Math.Dec.{eqb, eqb_refl}
use Rattle.std.specs.Float.{nan, inf, fin, binary64}
use Rattle.std.specs.Float.Ieee.{fits, eq, le}
use Rattle.floats.specs.Num.{plus_zero, floor, is_finite, abs}
use Rattle.floats.specs.Zed.{P, N, A, ext}
use Rattle.floats.specs.Value.{Num, units, eq_units, bool_eq}
use Rattle.floats.specs.Points.{int, is_whole, Whole, Is}
use Rattle.floats.proofs.Points.{of_units, le_is, abs_is}
use Rattle.floats.proofs.Meaning.{plus_num, plus_units, floor_value}
use Rattle.floats.proofs.Growth.{floor_fixes}
use Rattle.tolerances.specs.Tol.{at}
use Rattle.whole_numbers.specs.Fault.{whole_within, number_off}

module _ (x : Float) (h : Num x) where
  own_floor : T (eq (floor x) x) → T (is_whole x)
  own_floor t =
      let v = floor_value x h in
      let e = ext (units (floor x)) (units x) (eqb→eq _ _ (subst T (eq_units (floor x) x v.is.num h) t)) in
      (of_units x v.k (record { num = h; val = sym e ∙ v.is.val })).whole.whole

  whole_floor : T (is_whole x) → T (eq (floor x) x)
  whole_floor t =
      let e = ap (λ (y : Float). eq y x) (floor_fixes {x = x} (record { whole = t })) ∙ eq_units (plus_zero x) x (plus_num x h) h
      ∙ ap (λ (u : ℤ). eqb (P u + N (units x)) (P (units x) + N u)) (plus_units x) in
      subst T (sym e) (eqb_refl (P (units x) + N (units x)))

-- a finite float is whole exactly where it equals its floor
pub finite_whole : (x : Float) → T (fits binary64 x) → is_finite x ≡ true → eq (floor x) x ≡ is_whole x
unfolding is_finite
finite_whole nan f e = absurd (false≢true e)
finite_whole (inf s) f e = absurd (false≢true e)
finite_whole (fin s m e) f g = let x = fin s m e in bool_eq (eq (floor x) x) (is_whole x) (own_floor x (tt, f)) (whole_floor x (tt, f))

-- and no other float is
pub infinite_whole : (x : Float) → is_finite x ≡ false → false ≡ is_whole x
unfolding is_finite is_whole
infinite_whole nan e = refl
infinite_whole (inf s) e = refl
infinite_whole (fin s m g) e = absurd (false≢true (sym e))

-- against a limit that is the whole number k
pub within_is : (x limit : Float) (k : ℕ) → Is limit (pos k) → is_whole x && le (abs x) limit ≡ whole_within k x
unfolding whole_within
within_is x limit k l = go (is_whole x) refl
  where
    size : Whole x → le (abs x) limit ≡ leb (A (int x)) k
    size w =
        let a = abs_is w in
        le_is a.whole l.whole
        ∙ ap (λ (z : ℤ). leb (P z + N (int limit)) (P (int limit) + N z)) a.is
        ∙ ap (λ (z : ℤ). leb (A (int x) + N z) (P z + 0)) l.is
        ∙ ap (λ (n : ℕ). leb n (k + 0)) (add-zero (A (int x))) ∙ ap (leb (A (int x))) (add-zero k)

    go : (b : Bool) → is_whole x ≡ b → (is_whole x && le (abs x) limit) ≡ (is_whole x && leb (A (int x)) k)
    go true e = ap (λ (b : Bool). is_whole x && b) (size (record { whole = subst T (sym e) tt }))
    go false e = ap (λ (b : Bool). b && le (abs x) limit) e ∙ ap (λ (b : Bool). b && leb (A (int x)) k) (sym e)

-- a place of a list whose number is not whole, or beyond a limit
unfoldable pub beyond : Float → List Float → ℕ → Bool
beyond limit xs i = not (is_whole (at xs i) && le (abs (at xs i)) limit)

pub beyond_at : (limit : Float) (k : ℕ) → Is limit (pos k) → (xs : List Float) (i : ℕ) → beyond limit xs i ≡ number_off k xs i
unfolding beyond number_off
beyond_at limit k l xs i = ap not (within_is (at xs i) limit k l)
