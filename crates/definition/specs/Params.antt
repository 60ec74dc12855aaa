-- src/presolve/params.rs of microlp 0.7.0, changed: presolve's seven thresholds and caps, as one record that the definitions take.
-- None of them is a reason why a reduction is right: that rests on the tolerances (Work). Of the theorems about points only one thing is asked of
-- them, that the redundancy margin is not negative (points_kept, `points_kept_by`).
use Rattle.std.specs.Prelude.{◌≡◌, refl, false, ℕ, ◌*◌, ◌^◌, Float}
use Rattle.std.specs.Float.{binary64}
use Rattle.std.specs.Float.Ieee.{of_bits, round}

pub record Params : Type 0 where
  -- how much a working bound must gain at least, relative to itself: it keeps changes of a last digit from going round
  pub improve_rel : Float
  -- by how much a row must be redundant, relative to its magnitude: to keep a redundant row costs only time
  pub redundant_margin : Float
  -- the part of itself by which a coefficient must shrink at least
  pub coeff_min_improve : Float
  -- a row of more than coeff_tighten_short_row terms is rewritten only where at most coeff_tighten_row_cap of them are eligible
  pub coeff_tighten_row_cap : ℕ
  pub coeff_tighten_short_row : ℕ
  -- waves a round, and rounds
  pub max_passes : ℕ
  pub max_rounds : ℕ

-- the seven of the Rust: 1e-9, 1e-9, 0.1, 2, 16, 10, 3
abbrev pub params : Params
params =
    record {
      improve_rel = of_bits binary64 0x3e11_2e0b_e826_d695;
      redundant_margin = of_bits binary64 0x3e11_2e0b_e826_d695;
      coeff_min_improve = of_bits binary64 0x3fb9_9999_9999_999a;
      coeff_tighten_row_cap = 2;
      coeff_tighten_short_row = 16;
      max_passes = 10;
      max_rounds = 3;
    }

-- each literal's float is the one nearest to its decimal
pub improve_rel_is : params.improve_rel ≡ round binary64 false 1 (10 ^ 9)
unfolding of_bits round
improve_rel_is = refl

pub redundant_margin_is : params.redundant_margin ≡ round binary64 false 1 (10 ^ 9)
unfolding of_bits round
redundant_margin_is = refl

pub coeff_min_improve_is : params.coeff_min_improve ≡ round binary64 false 1 10
unfolding of_bits round
coeff_min_improve_is = refl

-- 01's "30 waves": the passes of a round times the rounds, shared by all rounds
abbrev pub max_waves : Params → ℕ
max_waves p = p.max_passes * p.max_rounds
