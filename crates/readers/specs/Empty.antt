-- A row as written, judged where its variables are fixed: the walk over its terms, and the verdict.
use Prim.Native.Nat.{ℕ, suc, ◌+◌, ◌-◌, ◌≤◌, ◌<◌}
use Rattle.std.proofs.Common.{arith, add-one, sym, ◌∙◌}
use Rattle.std.specs.Prelude.{◌≡◌, refl, Bool, true, false, not, ◌&&◌, take, drop, Float}
use Rattle.std.proofs.Math.Path.{ap}
use mathlib.Core.List.{List, [], ◌∷◌}
use Rattle.std.proofs.Math.ListN.{length, get_or, length-take, length-drop}
use Rattle.std.proofs.Math.Seq.{drop-cons}
use Rattle.std.specs.Float.Ieee.{nan}
use Rattle.cdouble.specs.declared.CDouble.{CDouble}
use Rattle.tolerances.specs.Tol.{Term, term, zip_terms, trivial_verdict, says_true, implied_slack, violated, row_start, row_term, row_slack, slack_violates}
use Rattle.tolerances.specs.declared.RowSum.{RowSum}
use Rattle.tolerances.specs.declared.Implied.{Implied}
use Rattle.tolerances.specs.Answers.{sum_of, pair_of}
use Rattle.tolerances.specs.Terms.{row_from, slack_by_terms, violated_by_slack}
use Rattle.definition.specs.declared.Rows.{Rows}
use Rattle.definition.specs.Model.{Model, from, upto, nnz, written, op_of, rhs_of}
use Rattle.definition.specs.Work.{Work, trivial}
use Rattle.definition.specs.Singles.{fixed_value}
use Rattle.space.specs.declared.Context.{Context}
use Rattle.space.specs.Store.{Floats, Numbers}
use Rattle.view.specs.Call.{Call}
use Rattle.view.specs.Shows.{Shows}
use Rattle.view.specs.Inv.{Inv, Below}
use Rattle.view.specs.Acts.{Any}
use Rattle.view.specs.Known.{Written}
use Rattle.readers.specs.Reading.{ReadyF, ReadsF}
use Rattle.readers.specs.Trivial.{TellsTrivial}
use Rattle.readers.specs.WrittenCoeffs.{zip_length}

-- the terms that stand at a up to e
unfoldable pub span_terms : List ℕ → List Float → ℕ → ℕ → List Term
span_terms is cs a e = zip_terms (take (e - a) (drop a is)) (take (e - a) (drop a cs))

module _ (is : List ℕ) (cs : List Float) where
  span_cons : (i e : ℕ) → i < e → e ≤ length is → e ≤ length cs → span_terms is cs i e ≡ term (get_or is i 0) (get_or cs i nan) ∷ span_terms is cs (i + 1) e
  unfolding span_terms zip_terms
  span_cons i e l p q =
      let z : e - i ≡ suc (e - suc i) = omega (arith, l) in
      rw (add-one, z, drop-cons is i 0 (omega (arith, l, p)), drop-cons cs i nan (omega (arith, l, q)))

  span_end : (i e : ℕ) → e ≤ i → span_terms is cs i e ≡ []
  unfolding span_terms zip_terms
  span_end i e l = let z : e - i ≡ 0 = omega (arith, l) in rw z

-- ---- the walk: the terms from i on are left
from_cons : (x : ℕ → Float) (d : CDouble × Float) (t : Term) (ts : List Term) → row_from x d (t ∷ ts) ≡ row_from x (row_term d t.coeff (x t.var)) ts
unfolding row_from
from_cons x d t ts = refl

from_end : (x : ℕ → Float) (d : CDouble × Float) → row_from x d [] ≡ d
unfolding row_from
from_end x d = refl

pub record Summing (is : List ℕ) (cs : List Float) (s : Context) (f : Floats) (a e : ℕ) (b : Float) (i : ℕ) (sum : RowSum) : Type 0 where
  pub past : a ≤ i
  pub upto : i ≤ e
  pub rest : (M : Model) (n : Numbers) (o : List ℕ) (k : ℕ) (w : Work) → Call M s → Shows M f n o w → Inv M k w
      → row_from (fixed_value w) (sum_of sum) (span_terms is cs i e) ≡ row_from (fixed_value w) (row_start b) (span_terms is cs a e)

module _ {is : List ℕ} {cs : List Float} {s : Context} {f : Floats} {a e : ℕ} {b : Float} where
  pub sum_start : {sum : RowSum} → a ≤ e → sum_of sum ≡ row_start b → Summing is cs s f a e b a sum
  sum_start l d =
      record {
        past = omega arith;
        upto = l;
        rest = λ M n o k w c h i. ap (λ (x : CDouble × Float). row_from (fixed_value w) x (span_terms is cs a e)) d;
      }

  module _ {i : ℕ} {sum : RowSum} (S : Summing is cs s f a e b i sum) where
    pub sum_turn : {x : Float} {sum' : RowSum} → e ≤ length is → e ≤ length cs → i < e → ReadsF Any s f x (λ M w. fixed_value w (get_or is i 0)) → sum_of sum'
        ≡ row_term (sum_of sum) (get_or cs i nan) x
        → Summing is cs s f a e b (i + 1) sum'
    sum_turn {x} {sum'} p q l v d =
        record {
          past = omega (arith, S.past);
          upto = omega (arith, l);
          rest = λ M n o k w c h j.
              let step : row_from (fixed_value w) (sum_of sum) (span_terms is cs i e) ≡ row_from (fixed_value w) (sum_of sum') (span_terms is cs (i + 1) e) =
              ap (row_from (fixed_value w) (sum_of sum)) (span_cons is cs i e l p q) ∙ from_cons (fixed_value w) (sum_of sum) (term (get_or is i 0) (get_or cs i nan)) (span_terms is cs (i + 1) e)
              ∙ ap (λ (y : CDouble × Float). row_from (fixed_value w) y (span_terms is cs (i + 1) e)) (ap (row_term (sum_of sum) (get_or cs i nan)) (v.reads M n o k w tt c h j) ∙ sym d) in
              sym step ∙ S.rest M n o k w c h j;
        }

    pub sum_end : e ≤ i → ReadsF Any s f (sum_of sum) (λ M w. row_from (fixed_value w) (row_start b) (span_terms is cs a e))
    sum_end l =
        record {
          reads = λ M n o k w x c h j.
              sym (S.rest M n o k w c h j) ∙ ap (row_from (fixed_value w) (sum_of sum)) (span_end is cs i e l) ∙ from_end (fixed_value w) (sum_of sum);
        }

-- ---- a row that is trivially true is not violated, and any other by its slack
when_true : {a : Bool} (b : Bool) → a ≡ true → (not a && b) ≡ false
when_true b e = rw e

when_false : {a : Bool} (b : Bool) → a ≡ false → (not a && b) ≡ b
when_false b e = rw e

-- ---- row r as written, in the slices
abbrev pub row_terms : Rows → ℕ → List Term
row_terms rows r = span_terms rows.index.now rows.coeff.now (get_or rows.starts.now r 0) (get_or rows.starts.now (r + 1) 0)

pub record TermsIn (s : Context) (rows : Rows) (r : ℕ) : Type 0 where
  pub starts : r + 1 < length rows.starts.now
  pub cmps : r < length rows.cmp.now
  pub rhss : r < length rows.rhs.now
  pub rise : get_or rows.starts.now r 0 ≤ get_or rows.starts.now (r + 1) 0
  pub indices : get_or rows.starts.now (r + 1) 0 ≤ length rows.index.now
  pub coeffs : length rows.coeff.now ≡ length rows.index.now
  pub below : Below s.vars rows.index.now

module _ {s : Context} {rows : Rows} {r : ℕ} where
  pub span_at : {M : Model} → Written rows M → Call M s → r < s.rows → TermsIn s rows r
  unfolding from upto
  span_at {M} k c p =
      let q : r < length M.rhs = omega (arith, p, c.rows) in
      let a₁ : get_or M.starts r 0 ≡ get_or rows.starts.now r 0 = ap (λ (l : List ℕ). get_or l r 0) k.starts in
      let a₂ : get_or M.starts (r + 1) 0 ≡ get_or rows.starts.now (r + 1) 0 = ap (λ (l : List ℕ). get_or l (r + 1) 0) k.starts in
      record {
        starts = omega (arith, q, c.starts, ap length k.starts);
        cmps = omega (arith, q, c.cmps, ap length k.cmp);
        rhss = omega (arith, q, ap length k.rhs);
        rise = omega (arith, c.rise r q, a₁, a₂);
        indices = omega (arith, c.last r q, a₂, ap length k.index);
        coeffs = omega (arith, c.coeffs, ap length k.coeff, ap length k.index);
        below = record {
          below = λ i l. let z : get_or M.index i 0 ≡ get_or rows.index.now i 0 = ap (λ (x : List ℕ). get_or x i 0) k.index in omega
              (arith, z, c.vars, c.index i (omega (arith, l, ap length k.index)));
        };
      }

  pub span_ready : {f : Floats} → ReadyF (Written rows) s f → r < s.rows → TermsIn s rows r
  span_ready R p = span_at R.ready.known R.ready.call p

  span_length : TermsIn s rows r → length (row_terms rows r) ≡ get_or rows.starts.now (r + 1) 0 - get_or rows.starts.now r 0
  unfolding span_terms
  span_length x =
      let a = get_or rows.starts.now r 0 in
      let e = get_or rows.starts.now (r + 1) 0 in
      let u = length-take (e - a) (drop a rows.index.now) in
      let u₁ = length-drop a rows.index.now in
      let v = length-take (e - a) (drop a rows.coeff.now) in
      let v₁ = length-drop a rows.coeff.now in
      zip_length (take (e - a) (drop a rows.index.now)) (take (e - a) (drop a rows.coeff.now)) (omega (arith, u, u₁, v, v₁, x.coeffs)) ∙ omega (arith, u, u₁, x.indices)

-- its terms, its comparison and its right side
module _ {rows : Rows} (r : ℕ) {M : Model} (k : Written rows M) where
  pub written_is : written M r ≡ row_terms rows r
  unfolding written nnz from upto span_terms
  written_is = rw (k.starts, k.index, k.coeff)

  pub rhs_is : rhs_of M r ≡ get_or rows.rhs.now r nan
  unfolding rhs_of
  rhs_is = ap (λ (l : List Float). get_or l r nan) k.rhs

  pub op_is : op_of M r ≡ get_or rows.cmp.now r 0
  unfolding op_of
  op_is = ap (λ (l : List ℕ). get_or l r 0) k.cmp

  module _ {s : Context} (c : Call M s) (p : r < s.rows) where
    terms_are : length (written M r) ≡ nnz M r
    unfolding nnz from upto
    terms_are = ap length written_is ∙ span_length (span_at k c p) ∙ ap (λ (l : List ℕ). get_or l (r + 1) 0 - get_or l r 0) (sym k.starts)

    says_is : {y : Bool} → TellsTrivial s rows.starts.now rows.cmp.now rows.rhs.now r y → says_true (trivial_verdict M.feas (op_of M r) (length (written M r)) (rhs_of M r)) ≡ y
    unfolding trivial
    says_is T = ap (λ (n : ℕ). says_true (trivial_verdict M.feas (op_of M r) n (rhs_of M r))) terms_are ∙ T.tells M k.starts k.cmp k.rhs c

    verdict_is : (m : Float × Float) → slack_violates M.feas (op_of M r) m ≡ slack_violates s.feas (get_or rows.cmp.now r 0) m
    verdict_is m = ap (λ (x : Float). slack_violates x (op_of M r) m) (sym c.feas) ∙ ap (λ (x : ℕ). slack_violates s.feas x m) op_is

    sum_is : (w : Work) → row_from (fixed_value w) (row_start (rhs_of M r)) (written M r) ≡ row_from (fixed_value w) (row_start (get_or rows.rhs.now r nan)) (row_terms rows r)
    sum_is w = ap (row_from (fixed_value w) (row_start (rhs_of M r))) written_is ∙ ap (λ (x : Float). row_from (fixed_value w) (row_start x) (row_terms rows r)) rhs_is

-- ---- empty_row_violated, by whether the row is trivially true
module _ {s : Context} {f : Floats} {rows : Rows} {r : ℕ} (p : r < s.rows) {y : Bool} (T : TellsTrivial s rows.starts.now rows.cmp.now rows.rhs.now r y) where
  pub empty_true : y ≡ true → ReadsF (Written rows) s f false (λ M w. violated M.feas (op_of M r) (written M r) (rhs_of M r) (fixed_value w))
  empty_true e =
      record {
        reads = λ M n o j w k c h i.
            violated_by_slack M.feas (op_of M r) (written M r) (rhs_of M r) (fixed_value w)
            ∙ when_true (slack_violates M.feas (op_of M r) (implied_slack (fixed_value w) (rhs_of M r) (written M r))) (says_is r k c p T ∙ e);
      }

  pub empty_judged : (u : RowSum) (m : Implied) {z : Bool} → y ≡ false
      → ReadsF Any s f (sum_of u) (λ M w. row_from (fixed_value w) (row_start (get_or rows.rhs.now r nan)) (row_terms rows r)) → pair_of m ≡ row_slack (sum_of u)
      → z ≡ slack_violates s.feas (get_or rows.cmp.now r 0) (pair_of m) → ReadsF (Written rows) s f z (λ M w. violated M.feas (op_of M r) (written M r) (rhs_of M r) (fixed_value w))
  empty_judged u m {z} e v em ez =
      record {
        reads = λ M n o j w k c h i.
            let d : implied_slack (fixed_value w) (rhs_of M r) (written M r) ≡ pair_of m =
            slack_by_terms (fixed_value w) (rhs_of M r) (written M r) ∙ ap row_slack (sum_is r k c p w ∙ v.reads M n o j w tt c h i) ∙ sym em in
            violated_by_slack M.feas (op_of M r) (written M r) (rhs_of M r) (fixed_value w)
            ∙ when_false (slack_violates M.feas (op_of M r) (implied_slack (fixed_value w) (rhs_of M r) (written M r))) (says_is r k c p T ∙ e)
            ∙ ap (slack_violates M.feas (op_of M r)) d ∙ verdict_is r k c p (pair_of m) ∙ sym ez;
      }
