-- The check sum of the digits ds, of which those before i are summed up.
use mathlib.Core.Path.{◌≡◌}
use mathlib.Core.List.{List}
use Prim.Native.Nat.{ℕ, suc, ◌+◌, ◌-◌, ◌<◌}
use native.Mathlib.Omega.{arith}
use native.Mathlib.Numerals.{add-one}
use lib.ListN.{length, get_or, drop, length-drop}
use lib.Seq.{drop-cons, drop-length}
use Rattle.model.specs.CardNumbers.{weighed, luhn_sum}

module _ (ds : List ℕ) (i sum : ℕ) (h : sum + luhn_sum (drop i ds) ≡ luhn_sum ds) where
  pub sum_more : i < length ds → (sum + weighed (length ds - (i + 1)) (get_or ds i 0)) + luhn_sum (drop (i + 1) ds) ≡ luhn_sum ds
  unfolding luhn_sum
  sum_more l =
      let e : luhn_sum (drop i ds) ≡ weighed (length ds - (i + 1)) (get_or ds i 0) + luhn_sum (drop (i + 1) ds)
      = rw (add-one i, drop-cons ds i 0 l, length-drop (suc i) ds) in
      omega (arith, h, e)

  pub luhn-is : i ≡ length ds → sum ≡ luhn_sum ds
  unfolding luhn_sum
  luhn-is e = omega (arith, rw (e, drop-length ds) at h)
