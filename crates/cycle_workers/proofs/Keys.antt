-- The order of keys, and how many keys there are.
use Rattle.std.proofs.Common.{◌≡◌, ℕ, ◌+◌, ◌*◌, ◌<◌, ◌≤◌, List, [], ◌∷◌, map, length, refl, sym, arith}
use Rattle.std.specs.List.{AllByRecursion}
use Rattle.std.specs.List.Sorted.{IsStrictlySortedBy}
use Rattle.std.specs.declared.cmp.Ordering.{Ordering}
use Rattle.std.specs.declared.cmp.Ordering.TheVariants.{Less, Equal, Greater}
use Rattle.std.specs.Ordering.{nat_cmp, ordering_then}
use Rattle.std.specs.Cmp.{IsTotalOrder}
use Rattle.std.proofs.lemmas.Bool.Decides.{nat_tests}
use Rattle.std.proofs.lemmas.Cmp.{nat_cmp_total, on_total, ranked, then_total}
use Rattle.std.proofs.lemmas.List.{length-map}
use Rattle.std.proofs.lemmas.List.Elements.{All-from_recursion, recursion_from_All}
use Rattle.std.proofs.lemmas.Map.Views.{length-le_from_below}
use Rattle.site_types.specs.declared.site.Site.{Site}
use Rattle.track_motion.specs.declared.track.TrackKey.{TrackKey}
use Rattle.track_motion.specs.Keys.{key_cmp}
use Rattle.cycle_workers.specs.declared.movers.Mover.{Mover}
use Rattle.cycle_workers.specs.Movers.{AreMovers, IsKey, IsMover}

pub key_total : IsTotalOrder key_cmp
key_total = then_total (on_total (λ (k : TrackKey). k.sac) nat_cmp_total) (then_total (on_total (λ (k : TrackKey). k.sic) nat_cmp_total) (on_total (λ (k : TrackKey). k.number) nat_cmp_total))

-- the key as one number
number_of : TrackKey → ℕ
number_of key = (key.sac * 256 + key.sic) * 65536 + key.number

below : (x y : ℕ) → nat_cmp x y ≡ Less → x < y
below x y less = ranked x y Less (sym less)

same : (x y : ℕ) → nat_cmp x y ≡ Equal → x ≡ y
same x y equal = ranked x y Equal (sym equal)

pub less : (x y : ℕ) → x < y → nat_cmp x y ≡ Less
less x y lower = grind (arith, nat_tests)

rises_at : (a b : TrackKey) → IsKey a → IsKey b → (o p : Ordering) → nat_cmp a.sac b.sac ≡ o → nat_cmp a.sic b.sic ≡ p → ordering_then o (ordering_then p (nat_cmp a.number b.number)) ≡ Less → number_of a < number_of b
unfolding number_of
rises_at a b of_a of_b Less p one two up =
    let sac : a.sac < b.sac = below a.sac b.sac one in
    let sic = of_a.sic in
    let number = of_a.number in
    omega arith
rises_at a b of_a of_b Equal Less one two up =
    let sac : a.sac ≡ b.sac = same a.sac b.sac one in
    let sic : a.sic < b.sic = below a.sic b.sic two in
    let number = of_a.number in
    omega arith
rises_at a b of_a of_b Equal Equal one two up =
    let sac : a.sac ≡ b.sac = same a.sac b.sac one in
    let sic : a.sic ≡ b.sic = same a.sic b.sic two in
    let number : a.number < b.number = below a.number b.number up in
    omega arith
rises_at a b of_a of_b Equal Greater one two up = absurd (cc)
rises_at a b of_a of_b Greater p one two up = absurd (cc)

rises : (a b : TrackKey) → IsKey a → IsKey b → key_cmp a b ≡ Less → number_of a < number_of b
rises a b of_a of_b up = rises_at a b of_a of_b (nat_cmp a.sac b.sac) (nat_cmp a.sic b.sic) refl refl up

numbers_above : (k : TrackKey) (keys : List TrackKey) → IsKey k → AllByRecursion IsKey keys → AllByRecursion (λ l. key_cmp k l ≡ Less) keys → AllByRecursion (λ n. nat_cmp (number_of k) n ≡ Less) (map number_of keys)
numbers_above k [] one each above = tt
numbers_above k (l ∷ ls) one each above = (less (number_of k) (number_of l) (rises k l one each.0 above.0), numbers_above k ls one each.1 above.1)

numbers_rise : (keys : List TrackKey) → AllByRecursion IsKey keys → IsStrictlySortedBy key_cmp keys → IsStrictlySortedBy nat_cmp (map number_of keys)
unfolding IsStrictlySortedBy
numbers_rise [] each up = tt
numbers_rise (k ∷ ks) each up = (numbers_above k ks each.0 each.1 up.0, numbers_rise ks each.1 up.1)

in_range : (k : TrackKey) → IsKey k → number_of k < 4294967296
unfolding number_of
in_range k is =
    let sac = is.sac in
    let sic = is.sic in
    let number = is.number in
    omega arith

numbers_in_range : (keys : List TrackKey) → AllByRecursion IsKey keys → AllByRecursion (λ n. n < 4294967296) (map number_of keys)
numbers_in_range [] each = tt
numbers_in_range (k ∷ ks) each = (in_range k each.0, numbers_in_range ks each.1)

few_keys : (keys : List TrackKey) → AllByRecursion IsKey keys → IsStrictlySortedBy key_cmp keys → length keys ≤ 4294967296
few_keys keys each up =
    let all = length-le_from_below 4294967296 (map number_of keys) (numbers_rise keys each up) (All-from_recursion (λ n. n < 4294967296) (map number_of keys) (numbers_in_range keys each)) in
    omega (arith, all, length-map keys number_of)

keys_of : (site : Site) (movers : List Mover) → AllByRecursion (IsMover site) movers → AllByRecursion IsKey (map (λ m. m.key) movers)
keys_of site [] each = tt
keys_of site (m ∷ ms) each = (each.0.key, keys_of site ms each.1)

-- there are no more movers than numbers of 32 bits
pub few : (site : Site) (movers : List Mover) → AreMovers site movers → IsStrictlySortedBy key_cmp (map (λ m. m.key) movers) → length movers ≤ 4294967296
few site movers each up =
    let all = few_keys (map (λ m. m.key) movers) (keys_of site movers (recursion_from_All (IsMover site) movers each)) up in
    omega (arith, all, length-map movers (λ (m : Mover). m.key))
