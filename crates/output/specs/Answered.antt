-- write_results: what it leaves is the definition's answer of every settled state that the working slices show.
use Rattle.std.specs.Prelude.{ℕ, ◌≤◌, ◌≡◌, length, Float}
use Rattle.std.proofs.Common.{arith, ap, sym, ◌∙◌, subst}
use mathlib.Core.List.{List}
use Rattle.tolerances.specs.Tol.{Term}
use Rattle.definition.specs.Model.{Model, Emit, Reduced, Answer, infeasible, done}
use Rattle.definition.specs.Work.{Work}
use Rattle.definition.specs.Emit.{Out, final, differs, answer_of}
use Rattle.definition.specs.declared.Input.{Input}
use Rattle.space.specs.declared.Context.{Context}
use Rattle.space.specs.Store.{Floats, Numbers}
use Rattle.view.specs.Call.{Call}
use Rattle.view.specs.Shows.{Shows}
use Rattle.view.specs.Inv.{Inv}
use Rattle.view.specs.Acts.{Ready}
use Rattle.view.specs.Steps.{ready_under}
use Rattle.view.specs.Known.{Written}
use Rattle.view.specs.Lists.{length_map}
use Rattle.view.specs.Settled.{out_of}
use Rattle.emit.specs.Fates.{Fates}
use Rattle.emit.specs.Filling.{over}
use Rattle.emit.specs.Spans.{Spanned, Indexed}
use Rattle.emit.specs.Terms.{vars_of, coeffs_of}
use Rattle.emit.specs.Judging.{Judged, shows_still}
use Rattle.emit.specs.Shown.{spanned_of, indexed_of, WrittenOut, out_written}
use Rattle.output.specs.declared.Reduced as code
use Rattle.output.specs.Results.{Results, written}
use Rattle.output.specs.Summary.{CountedAs, counted_as, differsBy}
use Rattle.output.specs.Writing.{outs, keeps, outputs, ListsOut, all-ten}

-- what the read-only slices say of the model: its bounds, and its rows as written
pub record BoundsAndRows (x : Input) (M : Model) : Type 0 where
  pub lower : M.lower ≡ x.lower.now
  pub upper : M.upper ≡ x.upper.now
  pub rows : Written x.rows M

-- THE ANSWER a is in the result slices b', which were b before, and in z
pub record AnswerShown (a : Reduced) (z : code.Reduced) (b b' : Results) : Type 0 where
  pub lists : b' ≡ written a b
  pub counts : CountedAs z.counts a.counts
  pub emitted : z.emitted ≡ length a.emitted
  pub terms : z.terms ≡ length a.terms
  pub kept : z.kept ≡ length a.kept
  pub flag : z.flag ≡ a.flag

-- whatever settled state the working slices show, it is that state's answer
pub record WritesOut (P : Model → Type 0) (s : Context) (f : Floats) (n : Numbers) (z : code.Reduced) (b b' : Results) : Type 0 where
  pub writes : (M : Model) (o : List ℕ) (k : ℕ) (u : Work) → P M → Call M s → Shows M f n o u → Inv M k u → (a : Reduced)
      → answer_of M (final u (out_of M u.rows (length M.rhs))) ≡ done a → AnswerShown a z b b'

-- ---- the answer of a settled state
abbrev answered : Model → Work → Out → Reduced
answered M u x = record { counts = u.counts; lower = u.elo; upper = u.ehi; emitted = x.emitted; terms = x.terms; kept = x.kept; flag = differs M u x }

-- a record, of an answer that has one
reduced_in : Reduced → Answer → Reduced
reduced_in d (infeasible k) = d
reduced_in d (done a) = a

answer-is : (M : Model) (u : Work) (x : Out) (a : Reduced) → answer_of M (final u x) ≡ done a → answered M u x ≡ a
unfolding answer_of reduced_in
answer-is M u x a e = ap (reduced_in a) e

module _ {M : Model} {s : Context} {f : Floats} {n : Numbers} {o : List ℕ} {k : ℕ} {u : Work} {x : Input}
    (c : Call M s) (g : BoundsAndRows x M) (h : Shows M f n o u) (i : Inv M k u) (F : Fates M n.fate f.bound u.rows s.rows) where
  abbrev x₀ : Out
  x₀ = out_of M u.rows (length M.rhs)

  out-now : WrittenOut c g.rows h i F x₀
  out-now = subst (λ (j : ℕ). WrittenOut c g.rows h i F (out_of M u.rows j)) c.rows (out_written c g.rows h i F)

  outs-are : outs s n ≡ length x₀.emitted
  outs-are = sym (ap length out-now.row) ∙ length_map (λ (e : Emit). e.row) x₀.emitted

  keeps-are : keeps s n ≡ length x₀.kept
  keeps-are = sym (ap length out-now.kept)

  lists-are : (b : Results) → outputs s x.rows f n b ≡ written (answered M u x₀) b
  unfolding written
  lists-are b =
      all-ten (ap (λ (l : List Float). over l b.lower) h.elo) (ap (λ (l : List Float). over l b.upper) h.ehi)
      (ap (λ (l : List ℕ). over l b.emit_row) (sym out-now.row)) (ap (λ (l : List ℕ). over l b.emit_rewritten) (sym out-now.rewritten))
      (ap (λ (l : List Float). over l b.emit_rhs) (sym out-now.rhs)) (ap (λ (l : List ℕ). over l b.emit_from) (sym out-now.from))
      (ap (λ (l : List ℕ). over l b.emit_upto) (sym out-now.upto)) (ap (λ (l : List ℕ). over l b.kept) (sym out-now.kept))
      (ap (λ (l : List Term). over (vars_of l) b.term_index) (sym out-now.terms)) (ap (λ (l : List Term). over (coeffs_of l) b.term_coeff) (sym out-now.terms))

  flag_is : differsBy s x.lower.now x.upper.now f (outs s n) (keeps s n) ≡ differs M u x₀
  unfolding differsBy differs
  flag_is = rw (h.elo, h.ehi, ← g.lower, ← g.upper, outs-are, keeps-are, c.rows)

  all-answered : {z : code.Reduced} {b b' : Results} → ListsOut s x f n z b b' → AnswerShown (answered M u x₀) z b b'
  all-answered {z} {b} {b'} L =
      record {
        lists = L.lists ∙ lists-are b;
        counts = counted_as n (ap (λ (r : code.Reduced). r.counts) L.result) h.counts;
        emitted = ap (λ (r : code.Reduced). r.emitted) L.result ∙ outs-are;
        terms = ap (λ (r : code.Reduced). r.terms) L.result ∙ sym (ap length out-now.terms);
        kept = ap (λ (r : code.Reduced). r.kept) L.result ∙ keeps-are;
        flag = ap (λ (r : code.Reduced). r.flag) L.result ∙ flag_is;
      }

-- ---- write_results
module _ {x : Input} {s : Context} {f : Floats} {n : Numbers} where
  module _ (R : Ready (BoundsAndRows x) s f n) where
    pub ready_rows : Ready (Written x.rows) s f n
    ready_rows = ready_under (λ M g. g.rows) R

    -- the model's bounds and right sides are as long as the call says
    pub lowers : length x.lower.now ≡ s.vars
    lowers = omega (arith, ap length R.known.lower, R.call.vars)

    pub uppers : length x.upper.now ≡ s.vars
    uppers = omega (arith, ap length R.known.upper, R.call.uppers, R.call.vars)

    pub sides : s.rows ≤ length x.rows.rhs.now
    sides = omega (arith, ap length R.known.rows.rhs, R.call.rows)

  -- after judge_rows
  module _ {f' : Floats} {n' : Numbers} (J : Judged (Written x.rows) s f n f' n' s.rows) where
    module _ (R : Ready (BoundsAndRows x) s f n) where
      fates-of : Fates R.model n'.fate f'.bound R.work.rows s.rows
      fates-of = J.fates R.model R.other R.left R.work R.known.rows R.call R.shows R.inv

      pub spanned-judged : Spanned s x.rows.starts.now n'
      spanned-judged = spanned_of R.call R.known.rows (shows_still J.floats J.numbers R.shows) R.inv fates-of

      pub indexed-judged : Indexed s x.rows.starts.now x.rows.index.now n'
      indexed-judged = indexed_of R.call R.known.rows (shows_still J.floats J.numbers R.shows) R.inv fates-of

    pub writes-out : {z : code.Reduced} {b b' : Results} → ListsOut s x f' n' z b b' → WritesOut (BoundsAndRows x) s f n z b b'
    writes-out {z} {b} {b'} L =
        record {
          writes = λ M o k u g c h i a e.
              subst (λ (r : Reduced). AnswerShown r z b b') (answer-is M u (out_of M u.rows (length M.rhs)) a e)
              (all-answered c g (shows_still J.floats J.numbers h) i (J.fates M o k u g.rows c h i) L);
        }
