-- `out_from` to `answer_of`: a row that goes out as written, and one that all within the bounds meet, together are the model's rows, so the answer has
-- all of the points sought and none but the model's.
use Prim.Native.Nat.{ℕ, ◌<◌}
use Rattle.std.specs.Prelude.{◌≡◌, ◌⊎◌, ℤ, length}
use mathlib.Core.List.{List, Memᴰ}
use Rattle.floats.specs.Points.{int}
use Rattle.definition.specs.Model.{Model, op_of, Emit, Reduced, Answer, infeasible, done}
use Rattle.definition.specs.Work.{Work}
use Rattle.definition.specs.Emit.{Out, Final, fails, final, written_entry}
use Rattle.points_kept.specs.PointSet.{PointSet}
use Rattle.points_kept.specs.Statements.{WholeReduced, PureInteger, dot, Within, Point, terms_of, Meets, MeetsReduced}
use Rattle.points_kept.specs.Invariant.{RowSided, GoodW, NoPoint}

-- what is answered from a state that is good for the points sought, where no coefficient is rewritten: infeasible says that there is none of them; a reduced
-- model is of whole numbers, has all of them, and none but the model's
abbrev pub Keeps : Model → PointSet → Answer → Type 0
Keeps M Sought (infeasible k) = k.coeffsTightened ≡ 0 → NoPoint M Sought
Keeps M Sought (done R) =
    R.counts.coeffsTightened ≡ 0 → WholeReduced M R × ((x : ℕ → ℤ) → Sought x → MeetsReduced M R x) × ((x : ℕ → ℤ) → MeetsReduced M R x → Point M x)

module _ (M : Model) (Sought : PointSet) (pure : PureInteger M) where
  -- where row j has gone to: it is emitted as written, or all within the bounds meet it
  abbrev pub Fate : Work → List Emit → ℕ → Type 0
  Fate w es j = Memᴰ (written_entry M j) es ⊎ ((x : ℕ → ℤ) → Within (length M.lower) w.elo w.ehi x → RowSided M j x)

  pub record Gone (r : ℕ) (w : Work) (o : Out) : Type 0 where
    pub good : GoodW M Sought w
    pub fate : (j : ℕ) → j < r → Fate w o.emitted j
    pub only : (e : Emit) → Memᴰ e o.emitted → (j : ℕ) × (j < length M.rhs) × (e ≡ written_entry M j)

  abbrev pub GoneF : ℕ → Final → Type 0
  GoneF r (fails k) = NoPoint M Sought ⊎ (0 < k.coeffsTightened)
  GoneF r (final w o) = Gone r w o ⊎ (0 < w.counts.coeffsTightened)

  abbrev pub EmitMet : Reduced → (ℕ → ℤ) → Emit → Type 0
  EmitMet R x e = Meets (op_of M e.row) (dot x (terms_of M R e)) (int e.rhs)
