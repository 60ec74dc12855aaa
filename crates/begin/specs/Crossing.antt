-- Crossed bounds, over the pairs.
use Rattle.std.specs.Prelude.{ℕ, suc, ◌≤◌, ◌<◌, ◌≡◌, refl, Bool, false, ◌||◌, List, [], ◌∷◌, length, drop, Float}
use Rattle.std.specs.List.{zip, list_any}
use Rattle.std.proofs.Common.{arith, ap, drop_of_length-le, drop-cons}
use Rattle.std.specs.Float.{nan}
use Rattle.floats.specs.Num.{gt}
use Rattle.tolerances.specs.Tol.{at}
use Rattle.definition.specs.Begin.{crossed}

-- the variables from v on
crossed_at : (ls hs : List Float) (v : ℕ) → v < length ls → length hs ≡ length ls
    → crossed (drop v ls) (drop v hs) ≡ (gt (at ls v) (at hs v) || crossed (drop (suc v) ls) (drop (suc v) hs))
unfolding crossed
crossed_at ls hs v p e = rw (drop-cons ls v nan p, drop-cons hs v nan (omega arith))

crossed_none : (ls hs : List Float) (v : ℕ) → length ls ≤ v → crossed (drop v ls) (drop v hs) ≡ false
unfolding crossed
crossed_none ls hs v p = rw (drop_of_length-le ls p)

pub crossed_pairs : (ls hs : List Float) → list_any (λ (p : Float × Float). gt p.0 p.1) (zip ls hs) ≡ crossed ls hs
unfolding crossed
crossed_pairs [] hs = refl
crossed_pairs (l ∷ ls) [] = refl
crossed_pairs (l ∷ ls) (h ∷ hs) = ap (λ (b : Bool). gt l h || b) (crossed_pairs ls hs)
