-- THE EDGES OF WHAT IS ACCEPTED, as 01 and 02 name them: one table of calls just inside and just outside, and one theorem, by computing; how many variables are too
-- many; and that longer slices are accepted where shorter ones are.
use Rattle.std.specs.Prelude.{ℕ, zero, suc, List, [], ◌∷◌, replicate, Float}
use Rattle.std.proofs.Math.Option.{Option, none, some}
use Rattle.std.specs.Float.Ieee.{nan}
use Rattle.floats.specs.Num.{0f, ½f, 1f, ∞f, -∞f}
use Rattle.definition.specs.Params.{params}
use Rattle.definition.specs.Model.{Model}
use Rattle.definition.specs.Cases.{#, ratio, -0f, bits, p, Line, ◌·◌, is_eq, is_le, is_ge, model_within, model}
use Rattle.definition.specs.Refusal.{Lent}
use Rattle.definition.specs.Refusal.{shortest, refusal}

-- ---- how a call is written
pub record Call : Type 0 where
  pub model : Model
  pub lent : Lent
  pub refusal : Option ℕ

-- with the shortest slices
abbrev pub of : Model → Option ℕ → Call
of M k = record { model = M; lent = shortest M; refusal = k }

-- 2p ≤ 7 with this feasibility and int_tol
abbrev pub within : Float → Float → Model
within feas int_tol = model_within feas int_tol 1 (p ∷ []) (is_le (2 · 0 ∷ []) (# 7) ∷ [])

-- one row
abbrev pub row : Line → Model
row l = model 1 (p ∷ []) (l ∷ [])

-- 2p ≤ 7, one variable, one row and one term, with slices of these lengths, in the order of Lent
abbrev pub lending : (l u r m b f e k i c x n a : ℕ) → Option ℕ → Call
lending l u r m b f e k i c x n a z =
    record {
      model = row (is_le (2 · 0 ∷ []) (# 7));
      lent = record {
        lower = l;
        upper = u;
        emit_row = r;
        emit_rewritten = m;
        emit_rhs = b;
        emit_from = f;
        emit_upto = e;
        kept = k;
        term_index = i;
        term_coeff = c;
        floats = x;
        numbers = n;
        adjacency = a;
      };
      refusal = z;
    }

-- from k on, n numbers
unfoldable pub counting : ℕ → ℕ → List ℕ
counting k zero = []
counting k (suc n) = k ∷ counting (suc k) n

-- one row a x₀ + a x₁ + .. ≤ 1 over n variables of this domain, with these indices
unfoldable pub long : (n domain mode : ℕ) → Float → List ℕ → Model
long n domain mode a index =
    record {
      obj = replicate n 0f;
      lower = replicate n 0f;
      upper = replicate n 1f;
      domain = replicate n domain;
      starts = 0 ∷ n ∷ [];
      index = index;
      coeff = replicate n a;
      cmp = 1 ∷ [];
      rhs = 1f ∷ [];
      mode = mode;
      feas = 0f;
      int_tol = 0f;
      params = params;
    }

abbrev pub nothing_lent : Lent
nothing_lent =
    record {
      lower = 0;
      upper = 0;
      emit_row = 0;
      emit_rewritten = 0;
      emit_rhs = 0;
      emit_from = 0;
      emit_upto = 0;
      kept = 0;
      term_index = 0;
      term_coeff = 0;
      floats = 0;
      numbers = 0;
      adjacency = 0;
    }

-- ---- the table
unfoldable pub edges : List Call
edges =
    -- tolerances: from 0, of either sign, up to 0.5; the float above 0.5, one below 0 and one that is no number are outside
    of (within ½f ½f) none
    ∷ of (within (ratio 51 100) ½f) (some 9)
    ∷ of (within ½f (ratio 51 100)) (some 9)
    ∷ of (within (bits 0x3fe0_0000_0000_0001) ½f) (some 9)
    ∷ of (within ½f (bits 0x8000_0000_0000_0001)) (some 9)
    ∷ of (within (# 0) (# 0)) none
    ∷ of (within -0f -0f) none
    ∷ of (within nan ½f) (some 9)
    -- right sides: an infinity is valid only where it makes the row true
    ∷ of (row (is_le (2 · 0 ∷ []) ∞f)) none
    ∷ of (row (is_le (2 · 0 ∷ []) -∞f)) (some 8)
    ∷ of (row (is_ge (2 · 0 ∷ []) -∞f)) none
    ∷ of (row (is_ge (2 · 0 ∷ []) ∞f)) (some 8)
    ∷ of (row (is_eq (2 · 0 ∷ []) ∞f)) (some 8)
    ∷ of (row (is_eq (2 · 0 ∷ []) -∞f)) (some 8)
    -- nothing: no variable, no row, neither
    ∷ of (model 1 [] (is_le [] (# 0) ∷ [])) none
    ∷ of (model 1 (p ∷ []) []) none
    ∷ of (model 1 [] []) none
    -- the shortest slices, and each of them one short
    ∷ lending 1 1 1 1 1 1 1 1 1 1 13 21 3 none
    ∷ lending 0 1 1 1 1 1 1 1 1 1 13 21 3 (some 10)
    ∷ lending 1 0 1 1 1 1 1 1 1 1 13 21 3 (some 10)
    ∷ lending 1 1 0 1 1 1 1 1 1 1 13 21 3 (some 10)
    ∷ lending 1 1 1 0 1 1 1 1 1 1 13 21 3 (some 10)
    ∷ lending 1 1 1 1 0 1 1 1 1 1 13 21 3 (some 10)
    ∷ lending 1 1 1 1 1 0 1 1 1 1 13 21 3 (some 10)
    ∷ lending 1 1 1 1 1 1 0 1 1 1 13 21 3 (some 10)
    ∷ lending 1 1 1 1 1 1 1 0 1 1 13 21 3 (some 10)
    ∷ lending 1 1 1 1 1 1 1 1 0 1 13 21 3 (some 10)
    ∷ lending 1 1 1 1 1 1 1 1 1 0 13 21 3 (some 10)
    ∷ lending 1 1 1 1 1 1 1 1 1 1 12 21 3 (some 10)
    ∷ lending 1 1 1 1 1 1 1 1 1 1 13 20 3 (some 10)
    ∷ lending 1 1 1 1 1 1 1 1 1 1 13 21 2 (some 10)
    -- two rows of the table apply: the earlier is given, the right side's and not the tolerance's
    ∷ of (model_within (ratio 51 100) ½f 1 (p ∷ []) (is_eq (2 · 0 ∷ []) ∞f ∷ [])) (some 8)
    -- a row of 256 terms passes and one of 257 does not, in every mode, and with zeros too: terms count as they are written
    ∷ of (long 256 2 0 1f (counting 0 256)) none
    ∷ of (long 256 2 1 1f (counting 0 256)) none
    ∷ of (long 256 2 2 1f (counting 0 256)) none
    ∷ of (long 257 2 0 1f (counting 0 257)) (some 18)
    ∷ of (long 257 2 1 1f (counting 0 257)) (some 18)
    ∷ of (long 257 2 2 1f (counting 0 257)) (some 18)
    ∷ of (long 257 2 1 0f (counting 0 257)) (some 18)
    -- 18 comes after 4 and before 5, so before 10 too: an index that falls, a domain of 3 and a mode of 3, and no slice lent
    ∷ of (long 257 2 1 1f (1 ∷ 0 ∷ counting 2 255)) (some 4)
    ∷ of (long 257 3 1 1f (counting 0 257)) (some 18)
    ∷ of (long 257 2 3 1f (counting 0 257)) (some 18)
    ∷ record { model = long 257 2 1 1f (counting 0 257); lent = nothing_lent; refusal = some 18 }
    ∷ []

unfoldable pub refusals : List Call → List (Option ℕ)
refusals [] = []
refusals (c ∷ cs) = refusal c.model c.lent ∷ refusals cs

unfoldable pub expected : List Call → List (Option ℕ)
expected [] = []
expected (c ∷ cs) = c.refusal ∷ expected cs

-- ---- n variables, from 0 to 0, and no row: up to 4,096 they are accepted, and more are refused with 2
unfoldable pub wide : ℕ → Model
wide n =
    record {
      obj = replicate n 0f;
      lower = replicate n 0f;
      upper = replicate n 0f;
      domain = replicate n 0;
      starts = 0 ∷ [];
      index = [];
      coeff = [];
      cmp = [];
      rhs = [];
      mode = 1;
      feas = 0f;
      int_tol = 0f;
      params = params;
    }
