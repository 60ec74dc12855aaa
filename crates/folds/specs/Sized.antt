-- The blocks that a row's stores go to, as long as they are in the lent slices.
use Rattle.std.specs.Prelude.{◌≡◌, List, ℕ, length, Float}
use Rattle.space.specs.declared.Context.{Context}
use Rattle.space.specs.Store.{Floats, Numbers, floats_of, numbers_of, HoldsF, HoldsN}
use Rattle.space.specs.Blocks.{lo_length, hi_length, fold_scale_length, shift_length, kept_length, coeffs_length, len_length}
use Rattle.space.specs.Blocks.{folded_length, alive_length, touched_length, binaries_length, vars_length, binary_length}

pub record Sized (s : Context) (f : Floats) (n : Numbers) : Type 0 where
  pub lo : length f.lo ≡ s.rows
  pub hi : length f.hi ≡ s.rows
  pub fold_scale : length f.fold_scale ≡ s.rows
  pub shift : length f.shift ≡ s.rows
  pub kept : length f.kept ≡ s.rows
  pub coeffs : length f.coeffs ≡ s.terms
  pub len : length n.len ≡ s.rows
  pub folded : length n.folded ≡ s.rows
  pub alive : length n.alive ≡ s.rows
  pub touched : length n.touched ≡ s.rows
  pub binaries : length n.binaries ≡ s.rows
  pub vars : length n.vars ≡ s.terms
  pub binary : length n.binary ≡ s.terms

pub sized : (s : Context) (l : List Float) (k : List ℕ) → HoldsF s l → HoldsN s k → Sized s (floats_of s l) (numbers_of s k)
sized s l k h g =
    record {
      lo = lo_length s l h;
      hi = hi_length s l h;
      fold_scale = fold_scale_length s l h;
      shift = shift_length s l h;
      kept = kept_length s l h;
      coeffs = coeffs_length s l h;
      len = len_length s k g;
      folded = folded_length s k g;
      alive = alive_length s k g;
      touched = touched_length s k g;
      binaries = binaries_length s k g;
      vars = vars_length s k g;
      binary = binary_length s k g;
    }
