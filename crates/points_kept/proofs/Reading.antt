-- HOW `Statements` READS: what its words for whole floats, for the order and for the tolerances mean, each proved.
use Rattle.std.specs.Prelude.{ℕ, ◌+◌, ◌*◌, ◌/◌, ◌%◌, ◌-◌, ◌≡◌, refl, ◌↔◌, Bool, true, false, eqb, ℤ, pos, negsuc, nat_abs, ◌+ℤ◌}
use Rattle.std.proofs.Common.{arith, div-add-mod', add-zero, sym, ap, ◌∙◌, eqb→eq}
use Rattle.std.specs.Float.{nan, inf, fin, binary64}
use Rattle.std.specs.Float.Ieee.{up, down, fits, round, of_bits}
use Rattle.floats.specs.Zed.{P, N, A, ext, add_parts, ◌⊑◌, P_neg, N_neg}
use Rattle.floats.specs.Value.{signed}
use Rattle.floats.specs.Points.{int, is_whole, Whole}
use Rattle.points_kept.specs.Statements.{HUNDREDTH}
use Rattle.points_kept.proofs.Integers.{eq_parts}
use Rattle.definition.specs.Tests.{and}

-- a float of sign s (true is minus), digits m and exponent e is m * 2 ^ e, where 2 ^ e is `up e / down e`; it is whole where that comes out even, and then it is the number
pub whole_reads : (s : Bool) (m : ℕ) (e : ℤ) → Whole (fin s m e) → (A (int (fin s m e)) * down e ≡ m * up e) × (int (fin s m e) ≡ signed s (A (int (fin s m e))))
unfolding int is_whole
whole_reads s m e h =
    let k = m * up e / down e in
    let z = eqb→eq (m * up e % down e) 0 (and (fits binary64 (fin s m e)) (eqb (m * up e % down e) 0) h.whole).1 in
    let a : A (signed s k) ≡ k = size s k in
    (ap (λ (n : ℕ). n * down e) a ∙ sym (add-zero (k * down e)) ∙ ap (λ (r : ℕ). k * down e + r) (sym z) ∙ div-add-mod' (m * up e) (down e), ap (signed s) (sym a))
  where
    size : (s : Bool) (n : ℕ) → A (signed s n) ≡ n
    size false n = omega arith
    size true n = omega (arith, P_neg (pos n), N_neg (pos n))

-- a NaN and an infinity are not whole
pub nan_not_whole : Whole nan → ⊥
unfolding is_whole
nan_not_whole h = h.whole

pub inf_not_whole : (s : Bool) → Whole (inf s) → ⊥
unfolding is_whole
inf_not_whole s h = h.whole

-- the magnitude, and the order: a is at most b where b is a and a natural number more
pub size_reads : (z : ℤ) → A z ≡ nat_abs z
size_reads (pos n) = omega arith
size_reads (negsuc n) = omega arith

pub order_reads : (a b : ℤ) → (a ⊑ b) ↔ ((n : ℕ) × (b ≡ a +ℤ pos n))
order_reads a b = (
  λ h. (P b + N a - (P a + N b), ext b (a +ℤ pos (P b + N a - (P a + N b))) (omega (arith, add_parts a (pos (P b + N a - (P a + N b)))))),
  λ q. omega (arith, add_parts a (pos q.0), eq_parts q.1),
)

-- 0.01, as the code has it
pub hundredth_reads : HUNDREDTH ≡ of_bits binary64 0x3f84_7ae1_47ae_147b
unfolding round of_bits
hundredth_reads = refl
