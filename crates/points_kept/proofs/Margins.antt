-- A float law that floats' `Slacks` has for one margin only: a margin of 0 or more, an infinity too, times a positive whole number is 0 or more.
use Rattle.std.specs.Prelude.{ℕ, zero, suc, ◌*◌, ◌/◌, ◌+◌, ◌<◌, ◌≡◌, true, false, Bool, cond, ℤ, pos, neg_ℤ, Float}
use Rattle.std.proofs.Common.{zero-mul, arith, sym, ap, subst, ◌∙◌, inl, inr}
use Rattle.std.proofs.Math.Nat.{zero-div}
use Rattle.std.proofs.Math.Dec.{eqb-suc-zero}
use Rattle.std.specs.Float.{nan, inf, fin}
use Rattle.std.specs.Float.Ieee.{mul, up, down, le, fits, of_bits}
use Rattle.floats.specs.Num.{◌⊗◌}
use Rattle.floats.specs.Zed.{◌⊑◌, ◌⊏◌, P_neg, N_neg}
use Rattle.floats.specs.Order.{rank_num}
use Rattle.floats.specs.Points.{int, is_whole, Whole}
use Rattle.floats.proofs.Points.{whole_num}
use Rattle.floats.specs.WholeRounding.{NonNeg}
use Rattle.floats.proofs.WholeRounding.{nonneg_cases, nonneg_rank}
use Rattle.floats.proofs.Slacks.{product_nonneg, whole_nonneg}

inf_times : (y : Float) → Whole y → pos 0 ⊏ int y → inf false ⊗ y ≡ inf false
unfolding mul int is_whole
inf_times nan h p = absurd h.whole
inf_times (inf s) h p = absurd h.whole
inf_times (fin false zero e) h p = absurd (none (0 * up e) (down e) (zero-mul (up e)) p)
  where
    none : (n d : ℕ) → n ≡ 0 → 0 < n / d + 0 → ⊥
    none n d e p = let q : n / d ≡ 0 = ap (λ (k : ℕ). k / d) e ∙ zero-div d in omega arith
inf_times (fin false (suc m) e) h p = ap (λ (b : Bool). cond b nan (inf false)) (eqb-suc-zero m)
inf_times (fin true m e) h p = absurd (below (m * up e / down e) p)
  where
    below : (n : ℕ) → pos 0 ⊏ neg_ℤ (pos n) → ⊥
    below n p = omega (arith, P_neg (pos n), N_neg (pos n))

inf_nonneg : NonNeg (inf false)
unfolding le fits of_bits
inf_nonneg = record { held = record { fits = tt }; low = record { le = tt } }

pub nonneg_times : {x y : Float} → NonNeg x → Whole y → pos 0 ⊏ int y → NonNeg (x ⊗ y)
nonneg_times {x} {y} h w p =
    elim (nonneg_cases h) [
      | inl n ↦ product_nonneg x y n (whole_num y w) (subst (λ (z : ℤ). pos 0 ⊑ z) (rank_num x n) (nonneg_rank h)) (whole_nonneg y w (omega arith))
      | inr e ↦ subst NonNeg (sym (ap (λ (z : Float). z ⊗ y) e ∙ inf_times y w p)) inf_nonneg
    ]
