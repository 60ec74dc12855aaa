-- What is counted so far, at most b of each count but the passes; and what bounds the steps to come: a queue of no more rows than are marked, and rows of few terms.
use Rattle.std.specs.Prelude.{ℕ, suc, ◌+◌, ◌≤◌, ◌≡◌, Bool, true, false, List, [], ◌∷◌, ◌++◌, length, get_or, set}
use Rattle.std.proofs.Common.{arith, ◌∙◌, length-set, length-append}
use Rattle.definition.specs.declared.Counts.{Counts}
use Rattle.definition.specs.Model.{Row, dropped, tightened, fixed_one, rewrote, passed}
use Rattle.definition.specs.Work.{Work, Step, no_row}
use Rattle.rows_kept.specs.Steps.{Each, stopped, went}
use Rattle.rows_kept.proofs.AllRows.{set_all}
use Rattle.view.specs.Inv.{marked}
use Rattle.view.specs.Lists.{marked_le, marked_set, marked_clear}

pub record AtMost (b : ℕ) (c : Counts) : Type 0 where
  pub dropped : c.rowsDropped ≤ b
  pub tightened : c.boundsTightened ≤ b
  pub fixed : c.varsFixed ≤ b
  pub rewrote : c.coeffsTightened ≤ b

pub at_most : {a b : ℕ} {c : Counts} → a ≤ b → AtMost a c → AtMost b c
at_most h p = record { dropped = omega (arith, p.dropped); tightened = omega (arith, p.tightened); fixed = omega (arith, p.fixed); rewrote = omega (arith, p.rewrote) }

-- one more of one count
pub drops_one : {b : ℕ} {c : Counts} → AtMost b c → AtMost (suc b) (dropped c)
drops_one p = record { dropped = omega (arith, p.dropped); tightened = omega (arith, p.tightened); fixed = omega (arith, p.fixed); rewrote = omega (arith, p.rewrote) }

pub tightens_one : {b : ℕ} {c : Counts} → AtMost b c → AtMost (suc b) (tightened c)
tightens_one p = record { dropped = omega (arith, p.dropped); tightened = omega (arith, p.tightened); fixed = omega (arith, p.fixed); rewrote = omega (arith, p.rewrote) }

pub fixes_one : {b : ℕ} {c : Counts} → AtMost b c → AtMost (suc b) (fixed_one c)
fixes_one p = record { dropped = omega (arith, p.dropped); tightened = omega (arith, p.tightened); fixed = omega (arith, p.fixed); rewrote = omega (arith, p.rewrote) }

pub rewrites_one : {b : ℕ} {c : Counts} → AtMost b c → AtMost (suc b) (rewrote c)
rewrites_one p = record { dropped = omega (arith, p.dropped); tightened = omega (arith, p.tightened); fixed = omega (arith, p.fixed); rewrote = omega (arith, p.rewrote) }

-- a call has no more terms than this, so a row has not
abbrev pub RowShort : Row → Type 0
RowShort row = length row.terms ≤ 65536

-- n rows; k counts the wave's rows still to come
pub record TallyHolds (n k b : ℕ) (c : Counts) (d : List Bool) (q : List ℕ) (rs : List Row) : Type 0 where
  pub counts : AtMost b c
  pub dirties : length d ≡ n
  pub room : length q + k ≤ marked d
  pub rowses : length rs ≡ n
  pub short : (r : ℕ) → RowShort (get_or rs r no_row)

-- bounds and the coefficient pass's marks are free
abbrev pub Tallied : ℕ → ℕ → ℕ → Work → Type 0
Tallied n k b w = TallyHolds n k b w.counts w.dirty w.queue w.rows

module _ {n : ℕ} {d : List Bool} {q : List ℕ} {rs : List Row} where
  pub recount : {k a b : ℕ} {c e : Counts} → (AtMost a c → AtMost b e) → TallyHolds n k a c d q rs → TallyHolds n k b e d q rs
  recount f p = record { counts = f p.counts; dirties = p.dirties; room = p.room; rowses = p.rowses; short = p.short }

  pub more : {k a b : ℕ} {c : Counts} → a ≤ b → TallyHolds n k a c d q rs → TallyHolds n k b c d q rs
  more h p = recount (at_most h) p

  pub fewer : {k j b : ℕ} {c : Counts} → j ≤ k → TallyHolds n k b c d q rs → TallyHolds n j b c d q rs
  fewer h p = record { counts = p.counts; dirties = p.dirties; room = omega (arith, p.room); rowses = p.rowses; short = p.short }

pub each_more : {n k a b : ℕ} {s : Step} → a ≤ b → Each (Tallied n k a) s → Each (Tallied n k b) s
each_more h (stopped w e p) = stopped w e (more h p)
each_more h (went p) = went (more h p)

module _ {n k b : ℕ} {c : Counts} {d : List Bool} {q : List ℕ} {rs : List Row} where
  -- a row that was not queued is
  pub queue_one : (r : ℕ) → get_or d r true ≡ false → TallyHolds n k b c d q rs → TallyHolds n k b c (set d r true) (q ++ (r ∷ [])) rs
  queue_one r e p =
      record {
        counts = p.counts;
        dirties = length-set d r true ∙ p.dirties;
        room = omega (arith, p.room, marked_set d r e, length-append q (r ∷ []));
        rowses = p.rowses;
        short = p.short;
      }

  -- a wave begins, and is counted: the queued rows are its rows, and all of them are marked
  pub begin_wave : TallyHolds n k b c d q rs → TallyHolds n (k + length q) b (passed c) d [] rs
  begin_wave p =
      record {
        counts = record { dropped = p.counts.dropped; tightened = p.counts.tightened; fixed = p.counts.fixed; rewrote = p.counts.rewrote };
        dirties = p.dirties;
        room = omega (arith, p.room);
        rowses = p.rowses;
        short = p.short;
      }

  pub queue_fits : TallyHolds n k b c d q rs → length q ≤ n
  queue_fits p = omega (arith, p.room, p.dirties, marked_le d)

  -- the wave comes to row r
  pub take_one : (r : ℕ) → TallyHolds n (suc k) b c d q rs → TallyHolds n k b c (set d r false) q rs
  take_one r p =
      record {
        counts = p.counts;
        dirties = length-set d r false ∙ p.dirties;
        room = omega (arith, p.room, marked_clear d r);
        rowses = p.rowses;
        short = p.short;
      }

  -- row r is x now
  pub change_one : (r : ℕ) (x : Row) → RowShort x → TallyHolds n k b c d q rs → TallyHolds n k b c d q (set rs r x)
  change_one r x h p =
      record {
        counts = p.counts;
        dirties = p.dirties;
        room = p.room;
        rowses = length-set rs r x ∙ p.rowses;
        short = set_all (λ (i : ℕ) (y : Row). RowShort y) rs r x p.short h;
      }
