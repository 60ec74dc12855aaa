-- The start of presolve, whole: the call ends there, with the definition's counts, or the slices show the state that the rounds start from.
use Rattle.std.specs.Prelude.{ℕ, ◌≡◌, refl, Bool, true, false, List, map, length, Float, Ok, Err}
use Rattle.std.proofs.Common.{arith, ap, sym, ◌∙◌, take_all, get_or-set_same}
use Rattle.definition.specs.declared.Counts.{Counts}
use Rattle.definition.specs.declared.Infeasible.{Infeasible}
use Rattle.definition.specs.declared.Input.{Input}
use Rattle.definition.specs.Model.{Model, Row, counts, Answer, infeasible}
use Rattle.definition.specs.Work.{Work}
use Rattle.definition.specs.Begin.{crossed, cross, bounds, Rows, round_from}
use Rattle.definition.specs.Rounds.{rounds}
use Rattle.definition.specs.Presolve.{finish, start, after_rounding, presolve}
use Rattle.space.specs.declared.Context.{Context}
use Rattle.space.specs.Store.{Floats, Numbers}
use Rattle.view.specs.Call.{Call}
use Rattle.view.specs.Shows.{is_one, Shows, CountsShown, tally_of, Outcome}
use Rattle.view.specs.Inv.{Inv}
use Rattle.view.specs.Known.{Written}
use Rattle.view.specs.Lists.{yes, no}
use Rattle.view.specs.Adjacency.{Adjacency}
use Rattle.folds.specs.Written.{Described}
use Rattle.begin.specs.Rounding.{InputBounds, BoundsRounded, FourLong}
use Rattle.begin.specs.Placing.{Adjoined}
use Rattle.begin.specs.Reading.{RowsLong, Cleared, Front, RowsShown, failed, shown, SameBounds, all_rows, RowsRead}

-- the state that the rounds start from
abbrev pub begun : List Float → List Float → List Row → List ℕ → List Bool → ℕ → Work
begun ls hs rows queue dirty k = record { wlo = ls; whi = hs; elo = ls; ehi = hs; rows = rows; dirty = dirty; coeff_dirty = dirty; queue = queue; counts = counts k 0 0 0 0 }

module _ {M : Model} {s : Context} {f : Floats} {n : Numbers} {rows : List Row} {queue : List ℕ} {dirty : List Bool} {drops : ℕ} (c : Call M s)
    (h : Front M (length M.rhs) f n rows queue dirty drops) where
  pub shows_begun : {ls hs : List Float} → RowsLong s n → f.wlo ≡ ls → f.whi ≡ hs → f.elo ≡ ls → f.ehi ≡ hs → Shows M f n n.wave (begun ls hs rows queue dirty drops)
  shows_begun b el eh gl gh =
      record {
        wlo = el;
        whi = eh;
        elo = gl;
        ehi = gh;
        dirty = ap (map is_one) (sym (take_all (length M.rhs) n.dirty (omega (arith, b.dirty, c.rows)))) ∙ h.flags;
        coeff_dirty = ap (map is_one) (sym (take_all (length M.rhs) n.coeff_dirty (omega (arith, b.coeff_dirty, c.rows)))) ∙ h.coeff_flags;
        queued = h.queued;
        queue = h.queues;
        counts = h.counted;
        wave = refl;
        alive = h.alive;
        rows = h.shown;
      }

  pub inv_begun : {ls hs : List Float} → length ls ≡ s.vars → length hs ≡ s.vars → Inv M 0 (begun ls hs rows queue dirty drops)
  inv_begun el eh =
      record {
        wlos = el ∙ c.vars;
        whis = eh ∙ c.vars;
        elos = el ∙ c.vars;
        ehis = eh ∙ c.vars;
        dirties = h.dirties;
        coeff_dirties = h.dirties;
        rowses = h.rowses;
        queue = h.below;
        room = omega (arith, h.room);
        rows = h.inv;
      }

-- what presolve answers: the counts are shown, or the state that it goes on with
pub data Begun (M : Model) (f : Floats) (n : Numbers) : Outcome → Answer → Type 0 where
  ended : {e : Infeasible} {k : Counts} → CountsShown (tally_of n) k → Begun M f n (Err e) (infeasible k)
  begins : {w : Work} → Shows M f n n.wave w → Inv M 0 w → Begun M f n (Ok tt) (finish M (rounds M M.params.max_rounds w))

-- what the slices of the call say of the model
pub record Handed (x : Input) (M : Model) : Type 0 where
  pub limits : InputBounds x M
  pub written : Written x.rows M

pub record Begins (P : Model → Type 0) (s : Context) (f : Floats) (n : Numbers) (a : List ℕ) (z : Outcome) : Type 0 where
  pub does : (M : Model) → P M → Call M s → Begun M f n z (presolve M)
  pub adjacency : z ≡ Ok tt → (M : Model) → P M → Call M s → Adjacency M a

-- ---- what the slices hold
module _ {x : Input} {s : Context} (G : Described (Handed x) s) where
  pub lower_long : length x.lower.now ≡ s.vars
  lower_long = omega (arith, ap length G.known.limits.lower, G.call.vars)

  pub upper_long : length x.upper.now ≡ s.vars
  upper_long = omega (arith, ap length G.known.limits.upper, G.call.uppers, G.call.vars)

  pub domain_long : length x.domain.now ≡ s.vars
  domain_long = omega (arith, ap length G.known.limits.domain, G.call.domains, G.call.vars)

  pub given_written : Described (Written x.rows) s
  given_written = record { model = G.model; known = G.known.written; call = G.call }

-- ---- the definition, by its ways
pub ends_crossed : (M : Model) → crossed M.lower M.upper ≡ true → presolve M ≡ infeasible (counts 0 0 0 0 0)
unfolding presolve
ends_crossed M e = yes _ _ e

pub ends_rounding : (M : Model) → crossed M.lower M.upper ≡ false → round_from M (length M.lower) 0 (bounds M.lower M.upper) ≡ cross → presolve M ≡ infeasible (counts 0 0 0 0 0)
unfolding presolve after_rounding
ends_rounding M e r = no _ _ e ∙ rw r

pub goes_on : (M : Model) {ls hs : List Float} → crossed M.lower M.upper ≡ false → round_from M (length M.lower) 0 (bounds M.lower M.upper)
    ≡ bounds ls hs → presolve M ≡ start M ls hs (all_rows M)
unfolding presolve after_rounding
goes_on M e r = no _ _ e ∙ rw r

zeros : {s : Context} {n : Numbers} → Cleared s n → CountsShown (tally_of n) (counts 0 0 0 0 0)
zeros z =
    let n = z.before in
    rw (z.is)
    (record {
      dropped = get_or-set_same n.dropped 0 0 0 (omega (arith, z.long.dropped));
      tightened = get_or-set_same n.tightened 0 0 0 (omega (arith, z.long.tightened));
      fixed = get_or-set_same n.fixed 0 0 0 (omega (arith, z.long.fixed));
      rewrote = get_or-set_same n.rewrote 0 0 0 (omega (arith, z.long.rewrote));
      passes = get_or-set_same n.passes 0 0 0 (omega (arith, z.long.passes));
    })

crossed_is : {x : Input} {y b : Bool} (M : Model) → y ≡ crossed x.lower.now x.upper.now → InputBounds x M → y ≡ b → crossed M.lower M.upper ≡ b
crossed_is M ec k e = rw (k.lower, k.upper) (sym ec ∙ e)

module _ {x : Input} {s : Context} {n : Numbers} {adjacency : List ℕ} {y : Bool} (ec : y ≡ crossed x.lower.now x.upper.now) (b : Cleared s n) where
  pub begin_crossed : {f : Floats} {u : Infeasible} → y ≡ true → Begins (Handed x) s f n adjacency (Err u)
  begin_crossed e =
      record {
        does = λ M k c. rw (ends_crossed M (crossed_is M ec k.limits e)) (ended (zeros b));
        adjacency = λ t. absurd (let z : ◌≡◌ {A = ℕ} 0 1 = cc in omega arith);
      }

  module _ {f : Floats} {z : Bool} (e : y ≡ false) (r : BoundsRounded x s f z) where
    pub begin_cross : {f' : Floats} {u : Infeasible} → z ≡ false → Begins (Handed x) s f' n adjacency (Err u)
    begin_cross g =
        record {
          does = λ M k c. rw (ends_rounding M (crossed_is M ec k.limits e) (r.is M k.limits c ∙ no _ _ g)) (ended (zeros b));
          adjacency = λ q. absurd (let t : ◌≡◌ {A = ℕ} 0 1 = cc in omega arith);
        }

    pub begin_rows : {f' : Floats} {n' : Numbers} {u : Outcome} → z ≡ true → FourLong s f → Adjoined (Written x.rows) s adjacency → RowsRead (Written x.rows) s f f' n' u → RowsLong s n'
        → Begins (Handed x) s f' n' adjacency u
    unfolding start
    begin_rows {f'} {n'} {u} g l a t w =
        record {
          does = λ M k c.
              rw (goes_on M (crossed_is M ec k.limits e) (r.is M k.limits c ∙ yes _ _ g)) (go M c (t.bounds M k.written c) (t.reads M k.written c));
          adjacency = λ _ M k c. a.does M k.written c;
        }
      where
        go : (M : Model) → Call M s → SameBounds f f' → {v : Outcome} {rs : Rows} → RowsShown M (length M.rhs) f' n' v rs → Begun M f' n' v (start M f.wlo f.whi rs)
        go M c q (failed h) = ended h
        go M c q (shown h) = begins (shows_begun c h w q.wlo q.whi (q.elo ∙ r.elo g) (q.ehi ∙ r.ehi g)) (inv_begun c h l.wlo l.whi)

-- ---- what the next step has of it
pub record Stopped (M : Model) (n : Numbers) (x : Answer) : Type 0 where
  pub counts : Counts
  pub is : x ≡ infeasible counts
  pub counted : CountsShown (tally_of n) counts

pub stopped_is : {M : Model} {f : Floats} {n : Numbers} {e : Infeasible} {x : Answer} → Begun M f n (Err e) x → Stopped M n x
stopped_is (ended {k} h) = record { counts = k; is = refl; counted = h }

pub record Started (M : Model) (f : Floats) (n : Numbers) (x : Answer) : Type 0 where
  pub work : Work
  pub is : x ≡ finish M (rounds M M.params.max_rounds work)
  pub shows : Shows M f n n.wave work
  pub inv : Inv M 0 work

pub started_is : {M : Model} {f : Floats} {n : Numbers} {x : Answer} → Begun M f n (Ok tt) x → Started M f n x
started_is (begins {w} h i) = record { work = w; is = refl; shows = h; inv = i }
