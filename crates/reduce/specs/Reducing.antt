-- presolve up to its settled rows: the call ends with the definition's counts, or the slices show the state that the answer is read off.
use Rattle.std.specs.Prelude.{ℕ, ◌≡◌, refl, List, length, Ok, Err}
use Rattle.std.proofs.Common.{arith, ap, sym, ◌∙◌, subst, Bor}
use Rattle.definition.specs.declared.Infeasible.{Infeasible}
use Rattle.definition.specs.declared.Counts.{Counts}
use Rattle.definition.specs.declared.Input.{Input}
use Rattle.definition.specs.Model.{Model, Answer, infeasible}
use Rattle.definition.specs.Work.{Work, Step, next}
use Rattle.definition.specs.Emit.{final, answer_of}
use Rattle.definition.specs.Presolve.{finish, presolve}
use Rattle.space.specs.declared.Context.{Context}
use Rattle.space.specs.Store.{Floats, Numbers}
use Rattle.view.specs.declared.Lists.{Lists}
use Rattle.view.specs.Call.{Call}
use Rattle.view.specs.Shows.{Shows, CountsShown, tally_of, StepShown, stopped, went, Outcome}
use Rattle.view.specs.Inv.{Inv}
use Rattle.view.specs.Acts.{Ready, Tries}
use Rattle.view.specs.Adjacency.{Adjacency}
use Rattle.view.specs.Known.{Written, known_written}
use Rattle.view.specs.Steps.{InvStep, stops, goes, went_is, ready_under}
use Rattle.folds.specs.Written.{Described}
use Rattle.view.specs.Renamed.{inv_next}
use Rattle.wave.specs.Begin.{Waves, ready_afresh}
use Rattle.begin.specs.Start.{Handed, Begins, Stopped, stopped_is, started_is}
use Rattle.view.specs.Settled.{settle_from, out_of, final_of, out_settled_lem}
use Rattle.reduce.specs.Settling.{from_keeps}
use Rattle.rounds.specs.After.{Running, running_known}
use Rattle.rounds.specs.Rounding.{rounds_of, rounds_keeps}

-- what the call says of the model
pub record Called (x : Input) (M : Model) : Type 0 where
  pub obj : M.obj ≡ x.obj.now
  pub handed : Handed x M
  pub mode : M.mode ≡ x.mode

-- what presolve answers: the counts are shown, or the settled state that its answer is read off
pub data Reduction (M : Model) (f : Floats) (n : Numbers) : Outcome → Answer → Type 0 where
  ended : {e₀ : Infeasible} {k : Counts} → CountsShown (tally_of n) k → Reduction M f n (Err e₀) (infeasible k)
  settled : {w : Work} {o : List ℕ} {k : ℕ} → Shows M f n o w → Inv M k w → Reduction M f n (Ok tt) (answer_of M (final w (out_of M w.rows (length M.rhs))))

pub record Reduces (P : Model → Type 0) (s : Context) (f : Floats) (n : Numbers) (z : Outcome) : Type 0 where
  pub does : (M : Model) → P M → Call M s → Reduction M f n z (presolve M)

-- what the adjacency slice holds: each variable's rows, where presolve comes to its settled rows
pub record Adjoins (P : Model → Type 0) (s : Context) (a : List ℕ) (z : Outcome) : Type 0 where
  pub adjacency : z ≡ (Ok tt) → (M : Model) → P M → Call M s → Adjacency M a

pub adjoins_stopped : {e₀ : Infeasible} {P : Model → Type 0} {s : Context} {adjacency : List ℕ} → Adjoins P s adjacency (Err e₀)
adjoins_stopped {e₀ = e₀} = record { adjacency = λ t. absurd (let z : ◌≡◌ {A = ℕ} 0 1 = cc in omega arith) }

pub begins_is : {P : Model → Type 0} {s : Context} {f : Floats} {n : Numbers} {adjacency : List ℕ} {z y : Outcome} → Begins P s f n adjacency z → z ≡ y → Begins P s f n adjacency y
begins_is {P} {s} {f} {n} {adjacency} b e = subst (λ (x : Outcome). Begins P s f n adjacency x) e b

pub adjoins_is : {P : Model → Type 0} {s : Context} {adjacency : List ℕ} {z y : Outcome} → Adjoins P s adjacency z → z ≡ y → Adjoins P s adjacency y
adjoins_is {P} {s} {adjacency} a e = subst (λ (x : Outcome). Adjoins P s adjacency x) e a

-- ---- the definition's end, step by step
finish_stopped : {e₀ : Infeasible} {M : Model} {f : Floats} {n : Numbers} {o : List ℕ} {y : Step} → StepShown M f n o (Err e₀) y → Reduction M f n (Err e₀) (finish M y)
unfolding finish
finish_stopped {e₀ = e₀} (stopped h) = ended h

finish_is : (M : Model) (w : Work) → finish M (next w) ≡ answer_of M (final_of M (length M.rhs) (settle_from M (length M.rhs) 0 w))
unfolding finish
finish_is M w = ap (answer_of M) (out_settled_lem M (length M.rhs) w)

final_shown : {M : Model} {f : Floats} {n : Numbers} {o : List ℕ} {k : ℕ} {z : Outcome} {y : Step} → StepShown M f n o z y → InvStep M k y
    → Reduction M f n z (answer_of M (final_of M (length M.rhs) y))
unfolding final_of answer_of
final_shown (stopped h) stops = ended h
final_shown (went h) (goes i) = settled h i

-- ---- reduce
-- what the rounds read of the call
abbrev pub lists_of : Input → Bor (List ℕ) → Lists
lists_of x adjacency = record { rows = x.rows; domain = x.domain; adjacency = adjacency }

module _ {input : Input} where
  called_running : (adjacency : Bor (List ℕ)) (M : Model) → Called input M → Adjacency M adjacency.now → Running input.obj.now (lists_of input adjacency) input.mode M
  called_running adjacency M p a =
      record {
        obj = p.obj;
        known = record { written = p.handed.written; domain = p.handed.limits.domain; adjacency = a };
        mode = p.mode;
      }

  module _ {s : Context} (G : Described (Called input) s) where
    pub given_handed : Described (Handed input) s
    given_handed = record { model = G.model; known = G.known.handed; call = G.call }

  -- infeasible at the start
  pub reduce_ended : {s : Context} {f₁ : Floats} {n₁ : Numbers} {js : List ℕ} {e₀ : Infeasible} → Begins (Handed input) s f₁ n₁ js (Err e₀) → Reduces (Called input) s f₁ n₁ (Err e₀)
  reduce_ended {f₁ = f₁} {n₁ = n₁} {e₀ = e₀} b =
      record { does = λ M p c. let g = stopped_is (b.does M p.handed c) in subst (Reduction M f₁ n₁ (Err e₀)) (sym g.is) (ended g.counted) }

  -- the rounds only read the slice
  pub adjoins_settled : {s : Context} {f₁ : Floats} {n₁ : Numbers} {js : List ℕ} {z : Outcome} → Begins (Handed input) s f₁ n₁ js (Ok tt) → Adjoins (Called input) s js z
  adjoins_settled b = record { adjacency = λ _ M p c. b.adjacency refl M p.handed c }

  module _ {s : Context} {f₁ : Floats} {n₁ : Numbers} (adjacency : Bor (List ℕ)) where
    module _ (b : Begins (Handed input) s f₁ n₁ adjacency.now (Ok tt)) where
      running : (M : Model) → Called input M → Call M s → Running input.obj.now (lists_of input adjacency) input.mode M
      running M p c = called_running adjacency M p (b.adjacency refl M p.handed c)

      -- the state that the rounds have
      pub ready_rounds : Described (Called input) s → Ready (Running input.obj.now (lists_of input adjacency) input.mode) s f₁ n₁
      ready_rounds G =
          let g = started_is (b.does G.model G.known.handed G.call) in
          record {
            model = G.model;
            other = n₁.wave;
            left = 0;
            work = g.work;
            known = running G.model G.known G.call;
            call = G.call;
            shows = g.shows;
            inv = g.inv;
          }

      -- infeasible in a round
      pub reduce_stopped : {e₀ : Infeasible} {f₂ : Floats} {n₂ : Numbers} → Waves (Running input.obj.now (lists_of input adjacency) input.mode) s f₁ n₁ f₂ n₂ (Err e₀) rounds_of
          → Reduces (Called input) s f₂ n₂ (Err e₀)
      reduce_stopped {e₀} {f₂} {n₂} t =
          record {
            does = λ M p c.
                let g = started_is (b.does M p.handed c) in
                let a = t.does M n₁.wave 0 g.work (running M p c) c g.shows g.inv in
                subst (Reduction M f₂ n₂ (Err e₀)) (sym g.is) (finish_stopped a.step);
          }

      module _ {f₂ : Floats} {n₂ : Numbers} (t : Waves (Running input.obj.now (lists_of input adjacency) input.mode) s f₁ n₁ f₂ n₂ (Ok tt) rounds_of) where
        -- the state that is settled
        pub ready_settle : Described (Called input) s → Ready (Written input.rows) s f₂ n₂
        ready_settle G = ready_under known_written (ready_under running_known (ready_afresh (ready_rounds G) t rounds_keeps))

        -- to the end, or infeasible as a row is settled
        pub reduce_settled : {f₃ : Floats} {n₃ : Numbers} {z : Outcome} → Tries (Written input.rows) s f₂ n₂ f₃ n₃ z (λ M. settle_from M s.rows 0)
            → Reduces (Called input) s f₃ n₃ z
        reduce_settled {f₃} {n₃} {z} u =
            record {
              does = λ M p c.
                  let g = started_is (b.does M p.handed c) in
                  let r = running M p c in
                  let a = t.does M n₁.wave 0 g.work r c g.shows g.inv in
                  let d = went_is a.step in
                  let i = inv_next ((rounds_keeps {P = Running input.obj.now (lists_of input adjacency) input.mode} {s = s}).keeps M 0 g.work r c g.inv) d.is in
                  let x = p.handed.written in
                  let v = final_shown (u.does M a.other 0 d.work x c d.shows i) ((from_keeps {P = Written input.rows} {s = s} s.rows (omega arith)).keeps M 0 d.work x c i) in
                  let e : presolve M ≡ answer_of M (final_of M (length M.rhs) (settle_from M s.rows 0 d.work)) =
                  g.is ∙ ap (finish M) d.is ∙ finish_is M d.work ∙ ap (λ (y : ℕ). answer_of M (final_of M (length M.rhs) (settle_from M y 0 d.work))) (sym c.rows) in
                  subst (Reduction M f₃ n₃ z) (sym e) v;
            }

-- ---- what the next step has of it
pub reduces_is : {P : Model → Type 0} {s : Context} {f : Floats} {n : Numbers} {z y : Outcome} → Reduces P s f n z → z ≡ y → Reduces P s f n y
reduces_is {P} {s} {f} {n} r e = subst (λ (x : Outcome). Reduces P s f n x) e r

-- infeasible, with the counts that the numbers show
pub ended_is : {e₀ : Infeasible} {M : Model} {f : Floats} {n : Numbers} {x : Answer} → Reduction M f n (Err e₀) x → Stopped M n x
ended_is {e₀ = e₀} (ended {k = k} h) = record { counts = k; is = refl; counted = h }

-- the settled state, which the slices show
pub record ShowsSettled (M : Model) (f : Floats) (n : Numbers) (x : Answer) : Type 0 where
  pub work : Work
  pub other : List ℕ
  pub left : ℕ
  pub is : x ≡ answer_of M (final work (out_of M work.rows (length M.rhs)))
  pub shows : Shows M f n other work
  pub inv : Inv M left work

pub settled_is : {M : Model} {f : Floats} {n : Numbers} {x : Answer} → Reduction M f n (Ok tt) x → ShowsSettled M f n x
settled_is (settled {w} {o} {k} h i) = record { work = w; other = o; left = k; is = refl; shows = h; inv = i }
