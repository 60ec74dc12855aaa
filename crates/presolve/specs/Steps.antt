-- The call step by step: an accepted call's context and room, and the promise from what the steps promise.
use Rattle.std.specs.Prelude.{ℕ, ◌+◌, ◌≤◌, ◌≡◌, Bool, List, length, replicate, Float, ⊤, Result, Ok, Err}
use Rattle.std.proofs.Common.{arith, ◌∙◌, subst, Bor}
use Rattle.std.proofs.Math.Path.{refl, ap, sym}
use Rattle.std.proofs.Math.Option.{Option, none, some}
use Rattle.floats.specs.Num.{0f}
use Rattle.definition.specs.declared.Counts.{Counts}
use Rattle.definition.specs.declared.Infeasible.{Infeasible}
use Rattle.definition.specs.declared.Input.{Input}
use Rattle.definition.specs.Params.{Params, params}
use Rattle.definition.specs.Model as definition
use Rattle.definition.specs.Model.{Model, is_mip, Reduced}
use Rattle.definition.specs.Work.{Work}
use Rattle.definition.specs.Accepted.{accepted}
use Rattle.definition.specs.Emit.{Out, answer_of, final, differs}
use Rattle.definition.specs.Presolve.{presolve}
use Rattle.definition.specs.Refusal.{refusal}
use Rattle.formulas.specs.Fixing.{mip}
use Rattle.space.specs.declared.Context.{Context}
use Rattle.space.specs.Store.{Floats, Numbers, HoldsF, HoldsN}
use Rattle.view.specs.Call.{Call}
use Rattle.view.specs.Acts.{Ready}
use Rattle.folds.specs.Written.{Described}
use Rattle.refuse.specs.declared.Refusal.{Refusal}
use Rattle.refuse.specs.Number.{number_of}
use Rattle.definition.specs.Of.{input_model}
use Rattle.refuse.specs.Of.{refused_is}
use Rattle.refuse.specs.Rows.{lengths_agree}
use Rattle.refuse.specs.Accepted.{Scalars, call_of, LentRoom, room_of}
use Rattle.tally.specs.Theorem.{CountsFit, Fits, counts_fit, fits_infeasible, fits_done}
use Rattle.view.specs.Settled.{out_of}
use Rattle.output.specs.declared.Reduced as code
use Rattle.output.specs.Results as results
use Rattle.output.specs.Results.{Results, written}
use Rattle.output.specs.Summary.{counts_of, counted_as, CountsSmall, counts_are}
use Rattle.output.specs.Answered as answered
use Rattle.output.specs.Answered.{WritesOut}
use Rattle.reduce.specs.Reducing.{Called, Reduces, ended_is, settled_is}
use Rattle.presolve.specs.declared.Presolved.{Presolved}
use Rattle.presolve.specs.Promise.{Working, working, lengths, refused, infeasible, presolved, Answer, presolved_is, answer_is, outcome, results_after, working_after, Promise}

-- ---- clear
pub all_zero : (f : List Float) (n j : List ℕ) {f' : List Float} {n' j' : List ℕ} → f' ≡ replicate (length f) 0f → n' ≡ replicate (length n) 0
    → j' ≡ replicate (length j) 0 → working f' n' j' ≡ working_after none (working f n j)
unfolding working_after
all_zero f n j a b c = rw (a, b, c) refl

-- only the lengths matter of what was there
pub same_space : (x y : Working) → length y.floats ≡ length x.floats → length y.numbers ≡ length x.numbers
    → length y.adjacency ≡ length x.adjacency → working_after none y ≡ working_after none x
unfolding working_after
same_space x y a b c = rw (a, b, c) refl

pub still_holds : {n l l' : ℕ} → l' ≡ l → n ≤ l → n ≤ l'
still_holds e p = omega (arith, e, p)

-- ---- a refusal
pub promise_refused : {M : Model} {b : Results} {x : Working} (k : Refusal) {y : Result ⊤ Refusal} {z : Answer} → refused_is y ≡ refusal M (lengths b x) → y ≡ Err k
    → answer_is z ≡ refused (number_of k) → Promise M b x z b x
unfolding outcome results_after working_after
promise_refused {M} {b} {x} k t g a =
    let e : refusal M (lengths b x) ≡ some (number_of k) = sym t ∙ ap refused_is g in
    record {
      answer = a ∙ sym (ap (λ (o : Option ℕ). outcome o (presolve M)) e);
      results = sym (ap (λ (o : Option ℕ). results_after o (presolve M) b) e);
      working = sym (ap (λ (o : Option ℕ). working_after o x) e);
    }

-- ---- a settled state's answer is a model
pub record ReducedOf (M : Model) (w : Work) (o : Out) : Type 0 where
  pub reduced : Reduced
  pub is : answer_of M (final w o) ≡ definition.done reduced

reduced_of : (M : Model) (w : Work) (o : Out) → ReducedOf M w o
unfolding answer_of
reduced_of M w o = record { reduced = record { counts = w.counts; lower = w.elo; upper = w.ehi; emitted = o.emitted; terms = o.terms; kept = o.kept; flag = differs M w o }; is = refl }

same_values : {k k' : Counts} {n n' t t' q q' : ℕ} {g g' : Bool} → k ≡ k' → n ≡ n' → t ≡ t' → q ≡ q' → g ≡ g' → presolved k n t q g ≡ presolved k' n' t' q' g'
same_values a b c d e = rw (a, b, c, d, e) refl

-- ---- finished: z has the answer that is in the result slices
pub record Finished (P : Model → Type 0) (s : Context) (f : Floats) (n : Numbers) (z : Presolved) (b b' : Results) : Type 0 where
  pub reduced : code.Reduced
  pub is : presolved_is z ≡ presolved reduced.counts reduced.emitted reduced.terms reduced.kept reduced.flag
  pub writes : WritesOut P s f n reduced b b'

-- ---- an accepted call, and its scalars
pub record NotRefused (M : Model) (b : Results) (x : Working) : Type 0 where
  pub table : refusal M (lengths b x) ≡ none

pub passes : {M : Model} {b : Results} {x : Working} {y : Result ⊤ Refusal} {u : ⊤} → refused_is y ≡ refusal M (lengths b x) → y ≡ Ok u → NotRefused M b x
passes t g = record { table = sym t ∙ ap refused_is g }

pub record AcceptedCall (M : Model) (b : Results) (x : Working) (s : Context) : Type 0 where
  pub params : M.params ≡ params
  pub table : refusal M (lengths b x) ≡ none
  pub scalars : Scalars M s

pub accept : {M : Model} {b : Results} {x : Working} {s : Context} → NotRefused M b x → M.params ≡ params → s.vars ≡ length M.obj → s.rows ≡ length M.rhs → s.terms ≡ length M.index
    → s.mip ≡ mip M.mode → s.feas ≡ M.feas → AcceptedCall M b x s
unfolding is_mip mip
accept {M} {b} {x} e p v r t i f =
    record {
      params = p;
      table = e.table;
      scalars = record { vars = v ∙ sym (lengths_agree M (accepted M (lengths b x) e.table).lengths).lower; rows = r; terms = t; mip = i; feas = f };
    }

-- each model with an accepted call is what some call hands in
lent : {A : Type 0} → A → Bor A
lent x = record { ref_ptr = (0, 0); now = x }

input_of : Model → Input
input_of M =
    record {
      obj = lent M.obj;
      lower = lent M.lower;
      upper = lent M.upper;
      domain = lent M.domain;
      rows = record { starts = lent M.starts; index = lent M.index; coeff = lent M.coeff; cmp = lent M.cmp; rhs = lent M.rhs };
      mode = M.mode;
      feas = M.feas;
      int_tol = M.int_tol;
    }

pub accepted_input : {M : Model} {b : Results} {x : Working} {s : Context} → AcceptedCall M b x s → (i : Input) × (input_model i ≡ M)
unfolding input_of lent
accepted_input {M} a = (input_of M, ap (λ (p : Params). record M { params = p }) (sym a.params))

module _ (i : Input) {b : Results} {x : Working} {s : Context} (a : AcceptedCall (input_model i) b x s) where
  abbrev M : Model
  M = input_model i

  call : Call M s
  call = call_of M (lengths b x) s a.table a.params a.scalars

  room : LentRoom s (lengths b x)
  room = room_of M (lengths b x) s a.table a.scalars

  abbrev Here : Model → Type 0
  Here = Called i

  abbrev Rows : Model → Type 0
  Rows = answered.BoundsAndRows i

  called : Here M
  called = record {
    obj = refl;
    handed = record { limits = record { lower = refl; upper = refl; domain = refl; int_tol = refl }; written = record { starts = refl; index = refl; coeff = refl; cmp = refl; rhs = refl } };
    mode = refl;
  }

  given : Rows M
  given = record { lower = refl; upper = refl; rows = record { starts = refl; index = refl; coeff = refl; cmp = refl; rhs = refl } }

  -- what reduce asks
  pub reduce_given : Described Here s
  reduce_given = record { model = M; known = called; call = call }

  pub holds_floats : HoldsF s x.floats
  holds_floats = room.floats

  pub holds_numbers : HoldsN s x.numbers
  holds_numbers = room.numbers

  pub holds_adjacency : s.vars + 1 + s.terms ≤ length x.adjacency
  holds_adjacency = room.adjacency

  -- what write_results asks
  pub has_room : results.ResultsRoom s b
  has_room =
      record {
        lower = room.lower;
        upper = room.upper;
        emit_row = room.emit_row;
        emit_rewritten = room.emit_rewritten;
        emit_rhs = room.emit_rhs;
        emit_from = room.emit_from;
        emit_upto = room.emit_upto;
        kept = room.kept;
        term_index = room.term_index;
        term_coeff = room.term_coeff;
      }

  pub ready_results : {f : Floats} {n : Numbers} → Reduces Here s f n (Ok tt) → Ready Rows s f n
  ready_results r =
      let g = settled_is (r.does M called call) in
      record {
        model = M;
        other = g.other;
        left = g.left;
        work = g.work;
        known = given;
        call = call;
        shows = g.shows;
        inv = g.inv;
      }

  -- the counts are the definition's: none of them reaches 2 ^ 64
  small : {k : Counts} → CountsFit k → CountsSmall k
  small c = record { rowsDropped = c.dropped; boundsTightened = c.tightened; varsFixed = c.fixed; coeffsTightened = c.rewrote }

  fit : Fits (presolve M)
  fit = counts_fit M s call

  -- infeasible
  pub promise_stopped : {e₀ : Infeasible} {f : Floats} {n : Numbers} {z : Presolved} {x' : Working} → Reduces Here s f n (Err e₀) → presolved_is z ≡ infeasible (counts_of n) → x'
      ≡ working_after none x → Promise M b x (Ok z) b x'
  unfolding outcome results_after
  promise_stopped {n = n} r o w =
      let g = ended_is (r.does M called call) in
      let k = counts_are (counts_of n) g.counts (counted_as n refl g.counted) (small (fits_infeasible (subst Fits g.is fit))) in
      record {
        answer = o ∙ ap infeasible k ∙ sym (ap (λ (t : Option ℕ). outcome t (presolve M)) a.table ∙ ap (outcome none) g.is);
        results = sym (ap (λ (t : Option ℕ). results_after t (presolve M) b) a.table ∙ ap (λ (y : definition.Answer). results_after none y b) g.is);
        working = w ∙ sym (ap (λ (t : Option ℕ). working_after t x) a.table);
      }

  -- a model
  pub promise_done : {f : Floats} {n : Numbers} {z : Presolved} {b' : Results} {x' : Working} → Reduces Here s f n (Ok tt) → Finished Rows s f n z b b' → x' ≡ working_after none x
      → Promise M b x (Ok z) b' x'
  unfolding outcome results_after
  promise_done r h w =
      let u = h.reduced in
      let g = settled_is (r.does M called call) in
      let d = reduced_of M g.work (out_of M g.work.rows (length M.rhs)) in
      let y = h.writes.writes M g.other g.left g.work given call g.shows g.inv d.reduced d.is in
      let k = counts_are u.counts d.reduced.counts y.counts (small (fits_done (subst Fits (g.is ∙ d.is) fit))) in
      record {
        answer = h.is ∙ same_values k y.emitted y.terms y.kept y.flag ∙ sym (ap (λ (t : Option ℕ). outcome t (presolve M)) a.table ∙ ap (outcome none) (g.is ∙ d.is));
        results = y.lists ∙ sym (ap (λ (t : Option ℕ). results_after t (presolve M) b) a.table ∙ ap (λ (v : definition.Answer). results_after none v b) (g.is ∙ d.is));
        working = w ∙ sym (ap (λ (t : Option ℕ). working_after t x) a.table);
      }
