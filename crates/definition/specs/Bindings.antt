-- `rewrite_binding` and `rewritten_bound` of src/presolve/work.rs of microlp 0.7.0, changed: the binding branch of a row's rewrites, and the bound
-- that a rewritten row is emitted with.
-- A rewrite makes the row's magnitude smaller in the binding branch, and so its tolerance: the bound is relaxed by the difference, so that every
-- point within the budget of the row as written, its rewritten binaries at one, stays within that of the rewritten one. The bound that is emitted is
-- computed anew from the one as written, less what the rewrites cut from the coefficients, in compensated arithmetic, and rounded outward: in the
-- binding branch the emitted row is the row as written, relaxed by what is kept, and never tighter. The working side, carried through folds and
-- rewrites, is off by their round-off, which only the vacuous branch allows for.
use Rattle.std.specs.Prelude.{ℕ, List, [], ◌∷◌, ◌++◌, eqb, Float}
use Rattle.std.proofs.Math.Option.{Option, none, some}
use Rattle.std.specs.Float.Ieee.{neg}
use Rattle.floats.specs.Num.{choose, ◌⊕◌, ◌⊖◌, 0f, abs, maxf}
use Rattle.cdouble.specs.declared.CDouble.{CDouble}
use Rattle.cdouble.specs.Double as double
use Rattle.definition.specs.Model.{Model, written, op_of, rhs_of, Binding, Row, rhs_mag, coeff_in, or_else, coeff_of}
use Rattle.definition.specs.Work.{Work, has}
use Rattle.definition.specs.Folds.{fixed_besides, rewrite_room}

-- the binaries' coefficients as rewritten, summed; `rewritten_coeff` is coeff_of. The Rust's `sum` starts at minus zero, which is not seen
unfoldable pub sum_coeffs : Row → Float → List ℕ → Float
sum_coeffs row s [] = s
sum_coeffs row s (k ∷ ks) = sum_coeffs row (s ⊕ abs (coeff_of row k)) ks

-- `row.binding.take().unwrap_or(..)`
unfoldable pub taken : Float → Option Binding → Binding
taken rhs none = record { binaries = []; written = rhs; rewritten = rhs; kept = 0f }
taken rhs (some b) = b

module _ (M : Model) where
  -- the row holds v's new coefficient already; a is the old one, b the row's bound, bp the new one
  unfoldable pub rewrite_binding : Work → Row → ℕ → Float → Float → Float → Binding
  rewrite_binding w row v a b bp =
      let old = taken (rhs_mag row b) row.binding in
      let bins = choose (has v old.binaries) old.binaries (old.binaries ++ (v ∷ [])) in
      let wr = choose (has v old.binaries) old.written (old.written ⊕ abs a) in
      let re = rhs_mag row bp ⊕ sum_coeffs row 0f bins in
      record {
        binaries = bins;
        written = wr;
        rewritten = re;
        kept = maxf (rewrite_room M wr re (fixed_besides w row bins)) old.kept;
      }

  -- the relaxation to add to bp: what the binding keeps more than before
  unfoldable pub growth : Float → Row → Binding → Float
  growth b row new = new.kept ⊖ (taken (rhs_mag row b) row.binding).kept

  -- `rewritten_bound`: the bound as written, less each binary's coefficient as written, plus as rewritten, relaxed by what is kept, rounded outward.
  -- The 0 stands for the Rust's `expect`: a rewritten binary is a term of its row as written
  unfoldable pub binding_sum : Row → ℕ → CDouble → List ℕ → CDouble
  binding_sum row r d [] = d
  binding_sum row r d (k ∷ ks) = binding_sum row r (double.plus (double.plus d (neg (or_else (coeff_in k (written M r)) 0f))) (coeff_of row k)) ks

  -- no Eq row is rewritten (rows_kept, specs/EqRows), where the Rust has `unreachable!`; here its bound is that of a Ge row
  unfoldable pub bound_with : Row → ℕ → Option Binding → Float
  bound_with row r none = rhs_of M r
  bound_with row r (some b) =
      let up = eqb (op_of M r) 1 in
      double.rounded (double.plus (binding_sum row r (double.from (rhs_of M r)) b.binaries) (choose up b.kept (neg b.kept))) up

  unfoldable pub rewritten_bound : Row → ℕ → Float
  rewritten_bound row r = bound_with row r row.binding
