-- The orders of keys and of ranks.
use Rattle.std.proofs.Common.{◌≡◌, ℕ, true, false, refl, ap, sym, ◌∙◌, ℤ, ◌≤ℤ◌, ◌<ℤ◌, subst, arith}
use Rattle.std.specs.declared.cmp.Ordering.{Ordering}
use Rattle.std.specs.declared.cmp.Ordering.TheVariants.{Less, Equal, Greater}
use Rattle.std.specs.Ordering.{MatchOrdering, int_cmp, is_gt, nat_cmp, ordering_reverse, ordering_then}
use Rattle.std.specs.Cmp.{IsTotalOrder, int_ranks, nat_cmp_is}
use Rattle.std.proofs.lemmas.Cmp.{back_total, int_cmp_total, nat_cmp_total, on_total, ranked, then_total}
use Rattle.std.proofs.lemmas.Int.{ints}
use Rattle.track_motion.specs.declared.rank.Stamped.{Stamped}
use Rattle.track_motion.specs.declared.track.TrackKey.{TrackKey}
use Rattle.track_motion.specs.Keys.{key_cmp}
use Rattle.track_motion.specs.Ranks.{outranks, rank_cmp}
use Rattle.track_table.specs.Tables.{is_recent}

-- ---- keys

pub key_total : IsTotalOrder key_cmp
key_total = then_total (on_total (λ (k : TrackKey). k.sac) nat_cmp_total) (then_total (on_total (λ (k : TrackKey). k.sic) nat_cmp_total) (on_total (λ (k : TrackKey). k.number) nat_cmp_total))

then_equal : (a b : Ordering) → ordering_then a b ≡ Equal → (a ≡ Equal) × (b ≡ Equal)
then_equal Less b e = absurd (cc)
then_equal Equal b e = (refl, e)
then_equal Greater b e = absurd (cc)

same_fields : (s t i j m n : ℕ) → s ≡ t → i ≡ j → m ≡ n → (let k : TrackKey = record { sac = s; sic = i; number = m } in k) ≡ record { sac = t; sic = j; number = n }
same_fields s t i j m n one two three = rw (one, two, three) refl

nat_equal : (x y : ℕ) → nat_cmp x y ≡ Equal → x ≡ y
nat_equal x y e = ranked x y Equal (sym e)

-- keys that are equal in order are the same
pub key_equal : (a b : TrackKey) → key_cmp a b ≡ Equal → a ≡ b
key_equal a b e =
    let sac = then_equal (nat_cmp a.sac b.sac) (ordering_then (nat_cmp a.sic b.sic) (nat_cmp a.number b.number)) e in
    let sic = then_equal (nat_cmp a.sic b.sic) (nat_cmp a.number b.number) sac.1 in
    same_fields a.sac b.sac a.sic b.sic a.number b.number (nat_equal a.sac b.sac sac.0) (nat_equal a.sic b.sic sic.0) (nat_equal a.number b.number sic.1)

nat_same : (x : ℕ) → nat_cmp x x ≡ Equal
nat_same x = sym (nat_cmp_is x x Equal refl)

pub key_same : (key : TrackKey) → key_cmp key key ≡ Equal
key_same key = rw (nat_same key.sac, nat_same key.sic, nat_same key.number) refl

-- ---- ranks

rank_total : IsTotalOrder rank_cmp
rank_total = then_total (on_total (λ (s : Stamped). s.at) int_cmp_total) (then_total (back_total (on_total (λ (s : Stamped). s.feed) nat_cmp_total)) (on_total (λ (s : Stamped). s.place) nat_cmp_total))

greater : (o : Ordering) → is_gt o ≡ true → o ≡ Greater
greater Less e = absurd (cc)
greater Equal e = absurd (cc)
greater Greater e = refl

-- who outranks one that outranks a third outranks the third
pub outranks_trans : (a b c : Stamped) → outranks a b ≡ true → outranks b c ≡ true → outranks a c ≡ true
outranks_trans a b c ab bc =
    let ba : rank_cmp b a ≡ Less = rank_total.antisymm b a ∙ ap ordering_reverse (greater (rank_cmp a b) ab) in
    let cb : rank_cmp c b ≡ Less = rank_total.antisymm c b ∙ ap ordering_reverse (greater (rank_cmp b c) bc) in
    ap is_gt (rank_total.antisymm a c ∙ ap ordering_reverse (rank_total.trans c b a cb ba))

equal_after : (a b c : Stamped) → rank_cmp a b ≡ Less → rank_cmp b c ≡ Equal → rank_cmp a c ≡ Less
equal_after a b c ab bc =
    let cb : rank_cmp c b ≡ Equal = rank_total.antisymm c b ∙ ap ordering_reverse bc in
    let ba : rank_cmp b a ≡ Greater = rank_total.antisymm b a ∙ ap ordering_reverse ab in
    rank_total.antisymm a c ∙ ap ordering_reverse (rank_total.congr c b a cb ∙ ba)

not_above : (a b c : Stamped) (ab bc : Ordering) → rank_cmp a b ≡ ab → rank_cmp b c ≡ bc → is_gt ab ≡ false → is_gt bc ≡ false → is_gt (rank_cmp a c) ≡ false
not_above a b c Less Less at_ab at_bc low_ab low_bc = ap is_gt (rank_total.trans a b c at_ab at_bc)
not_above a b c Less Equal at_ab at_bc low_ab low_bc = ap is_gt (equal_after a b c at_ab at_bc)
not_above a b c Less Greater at_ab at_bc low_ab low_bc = absurd (cc)
not_above a b c Equal bc at_ab at_bc low_ab low_bc = ap is_gt (rank_total.congr a b c at_ab ∙ at_bc) ∙ low_bc
not_above a b c Greater bc at_ab at_bc low_ab low_bc = absurd (cc)

-- who doesn't outrank one that doesn't outrank a third doesn't outrank the third
pub not_outranks_trans : (a b c : Stamped) → outranks a b ≡ false → outranks b c ≡ false → outranks a c ≡ false
not_outranks_trans a b c ab bc = not_above a b c (rank_cmp a b) (rank_cmp b c) refl refl ab bc

turned : (a b : Stamped) (ab : Ordering) → rank_cmp a b ≡ ab → is_gt ab ≡ true → is_gt (rank_cmp b a) ≡ false
turned a b ab at above = ap is_gt (rank_total.antisymm b a ∙ ap ordering_reverse (at ∙ greater ab above))

-- of two records at most one outranks the other
pub outranks_one : (a b : Stamped) → outranks a b ≡ true → outranks b a ≡ false
outranks_one a b above = turned a b (rank_cmp a b) refl above

by_time : (a b : ℤ) (o rest : Ordering) → int_cmp a b ≡ o → is_gt (ordering_then o rest) ≡ false → a ≤ℤ b
by_time a b Less rest at low = let below : a <ℤ b = subst (λ o. MatchOrdering o (a <ℤ b) (a ≡ b) (b <ℤ a)) at (int_ranks a b) in omega (arith, ints)
by_time a b Equal rest at low = let same : a ≡ b = subst (λ o. MatchOrdering o (a <ℤ b) (a ≡ b) (b <ℤ a)) at (int_ranks a b) in omega (arith, ints)
by_time a b Greater rest at low = absurd (cc)

level_at : (a b : Stamped) (ab : Ordering) → rank_cmp a b ≡ ab → is_gt ab ≡ false → outranks b a ≡ false → rank_cmp a b ≡ Equal
level_at a b Less at low ba = let above : outranks b a ≡ true = ap is_gt (rank_total.antisymm b a ∙ ap ordering_reverse at) in absurd (cc)
level_at a b Equal at low ba = at
level_at a b Greater at low ba = absurd (cc)

-- two records of which neither outranks the other are at the same place of the same feed
pub same_rank : (a b : Stamped) → outranks a b ≡ false → outranks b a ≡ false → (a.feed ≡ b.feed) × (a.place ≡ b.place)
same_rank a b ab ba =
    let level = level_at a b (rank_cmp a b) refl ab ba in
    let time = then_equal (int_cmp a.at b.at) (ordering_then (nat_cmp b.feed a.feed) (nat_cmp a.place b.place)) level in
    let feed = then_equal (nat_cmp b.feed a.feed) (nat_cmp a.place b.place) time.1 in
    (sym (nat_equal b.feed a.feed feed.0), nat_equal a.place b.place feed.1)

-- who doesn't outrank a record was told no later
pub no_later : (a b : Stamped) → outranks a b ≡ false → a.at ≤ℤ b.at
no_later a b low = by_time a.at b.at (int_cmp a.at b.at) (ordering_then (nat_cmp b.feed a.feed) (nat_cmp a.place b.place)) refl low

-- a record that isn't outranked by a recent one is recent
pub recent_above : (time timeout : ℤ) (a b : Stamped) → outranks a b ≡ false → is_recent time timeout a ≡ true → is_recent time timeout b ≡ true
recent_above time timeout a b low recent = let told = no_later a b low in grind (arith, ints)
