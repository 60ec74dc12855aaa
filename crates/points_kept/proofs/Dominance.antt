-- DOMINANCE: where points are lost on purpose, each point of the model has one among those that stay that is as good: one that dominates it. With dual fixing off
-- this is the point itself; with it on it is any point, which says that there is one, or one of no greater objective. Here is what is kept on the way: the
-- invariant for the state's own points.
use Rattle.std.specs.Prelude.{ℕ, ℤ}
use Rattle.definition.specs.Model.{Model}
use Rattle.definition.specs.Work.{Work}
use Rattle.points_kept.specs.PointSet.{PointSet}
use Rattle.points_kept.specs.Statements.{Point}
use Rattle.points_kept.specs.Invariant.{GoodW}
use Rattle.points_kept.specs.Dominance.{At, Dominance, Dominating}

-- a state that is good for some points is good for any that are its own
pub good_for : (M : Model) {S T : PointSet} (w : Work) → GoodW M S w → ((x : ℕ → ℤ) → T x → At M w x) → GoodW M T w
good_for M w g own =
    record {
      wl_length = g.wl_length;
      wh_length = g.wh_length;
      el_length = g.el_length;
      eh_length = g.eh_length;
      rows_length = g.rows_length;
      interval = g.interval;
      keeps = λ x p. (own x p).0;
      asks = λ x p. (own x p).1;
      shrinks = g.shrinks;
      row = g.row;
    }

-- and those are its own
pub has : (M : Model) {Sought : PointSet} (w : Work) → GoodW M Sought w → (x : ℕ → ℤ) → Sought x → At M w x
has M w g x p = (g.keeps x p, g.asks x p)

-- it begins with a state that has all of the model's points, each of which dominates itself
pub begins : (M : Model) (D : Dominance) → ((x : ℕ → ℤ) → D x x) → (w : Work) → GoodW M (Point M) w → Dominating M D w
begins M D self w g = record { good = good_for M w g (λ x p. p); dominates = λ x p. (x, has M w g x p, self x) }

-- and goes on with a state that has all of the last one's points
pub goes_on : (M : Model) (D : Dominance) (w w1 : Work) → Dominating M D w → GoodW M (At M w) w1 → Dominating M D w1
goes_on M D w w1 d g = record { good = good_for M w1 g (λ x p. p); dominates = λ x p. let q = d.dominates x p in (q.0, has M w1 g q.0 q.1, q.2) }
