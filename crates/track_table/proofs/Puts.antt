-- What a table keeps and answers when a record is put.
use Rattle.std.proofs.Common.{◌≡◌, Bool, true, false, cond, not, ◌&&◌, List, [], ◌∷◌, ◌++◌, Option, Some, None, ℤ, refl, ap, sym, ◌∙◌}
use Rattle.std.specs.Prelude.{filter}
use Rattle.std.specs.List.Sorted.{IsStrictlySortedBy}
use Rattle.std.specs.BTreeMap.{insert_entry}
use Rattle.std.specs.Map.{keys_of as keys_in}
use Rattle.std.specs.Ordering.{eq_by_cmp, is_eq}
use Rattle.std.proofs.lemmas.Bool.{and_parts}
use Rattle.std.proofs.lemmas.List.{append-nil}
use Rattle.std.proofs.lemmas.List.Elements.{filter-append}
use Rattle.std.proofs.lemmas.Map.Entries.{option_filter}
use Rattle.track_motion.specs.declared.rank.Stamped.{Stamped}
use Rattle.track_motion.specs.declared.track.TrackKey.{TrackKey}
use Rattle.track_motion.specs.Keys.{key_cmp}
use Rattle.track_motion.specs.Ranks.{outranks}
use Rattle.track_table.specs.declared.table.Put.{Put}
use Rattle.track_table.specs.declared.table.Put.TheVariants.{Kept, Superseded}
use Rattle.track_table.specs.Kept.{answer_to, counting, counts, entries_of, superseded_by, told_of, unless_outranked}
use Rattle.track_table.specs.Tables.{highest, newest, of_key}
use Rattle.track_table.proofs.Filters.{option_filter_and}
use Rattle.track_table.proofs.Highest.{IsUpward, after, highest_filter, highest_none, highest_push}
use Rattle.track_table.proofs.KeyOrder.{found_insert, rise_entry}
use Rattle.track_table.proofs.Newest.{entries_known, found, found_filter, rise_filter, rise_newest, same_key}
use Rattle.track_table.proofs.Orders.{not_outranks_trans, outranks_one, recent_above}

-- what is kept of all records put
abbrev pub kept_of : ℤ → Option ℤ → List Stamped → List (TrackKey × Stamped)
kept_of timeout frozen puts = entries_of (filter (counts timeout frozen) (newest puts))

pub kept_rise : (timeout : ℤ) (frozen : Option ℤ) (puts : List Stamped) → IsStrictlySortedBy key_cmp (keys_in (kept_of timeout frozen puts))
kept_rise timeout frozen puts = rise_filter (counts timeout frozen) (newest puts) (rise_newest puts)

-- a record that isn't outranked by one that counts counts
counts_upward : (timeout : ℤ) (frozen : Option ℤ) → IsUpward (counts timeout frozen)
counts_upward timeout None a b low one = refl
counts_upward timeout (Some time) a b low one = recent_above time timeout a b low one

found_kept : (timeout : ℤ) (frozen : Option ℤ) (puts : List Stamped) (q : TrackKey) → found q (kept_of timeout frozen puts) ≡ option_filter (counts timeout frozen) (highest (of_key q puts))
found_kept timeout frozen puts q = found_filter (counts timeout frozen) q puts

-- ---- the answer

not_false : (b : Bool) → not b ≡ true → b ≡ false
not_false true e = absurd (cc)
not_false false e = refl

both_true : (a b : Bool) → a ≡ true → b ≡ true → (a && b) ≡ true
both_true a b one two = rw (one, two) refl

unbeaten_upward : (timeout : ℤ) (frozen : Option ℤ) (s : Stamped) → IsUpward (λ r. counts timeout frozen r && not (outranks s r))
unbeaten_upward timeout frozen s a b low both =
    let parts = and_parts (counts timeout frozen a) (not (outranks s a)) both in
    both_true (counts timeout frozen b) (not (outranks s b))
    (counts_upward timeout frozen a b low parts.0)
    (ap not (not_outranks_trans s a b (not_false (outranks s a) parts.1) low))

unless_is : (s : Stamped) (o : Option Stamped) → option_filter (λ r. not (outranks s r)) o ≡ unless_outranked s o
unless_is s None = refl
unless_is s (Some r) = elim (outranks s r) as (λ b. cond (not b) (Some r) None ≡ cond b None (Some r)) [ true ↦ refl | false ↦ refl ]

-- the answer is told by what stands at the record's key
pub answer_is : (timeout : ℤ) (frozen : Option ℤ) (puts : List Stamped) (s : Stamped) (es : List (TrackKey × Stamped)) → es ≡ kept_of timeout frozen puts →
    answer_to timeout frozen puts s ≡ superseded_by (unless_outranked s (found s.track.key es))
answer_is timeout frozen puts s es stands =
    let records = of_key s.track.key puts in
    ap superseded_by
    (highest_filter (λ r. counts timeout frozen r && not (outranks s r)) (unbeaten_upward timeout frozen s) records
    ∙ option_filter_and (counts timeout frozen) (λ r. not (outranks s r)) (highest records)
    ∙ ap (option_filter (λ r. not (outranks s r))) (sym (found_kept timeout frozen puts s.track.key) ∙ ap (found s.track.key) (sym stands))
    ∙ unless_is s (found s.track.key es))

-- no record of a track counts at whose key nothing stands
pub none_counts : (timeout : ℤ) (frozen : Option ℤ) (puts : List Stamped) (key : TrackKey) (es : List (TrackKey × Stamped)) → es ≡ kept_of timeout frozen puts → found key es ≡ None →
    counting timeout frozen key puts ≡ []
none_counts timeout frozen puts key es stands none =
    highest_none (counting timeout frozen key puts)
    (highest_filter (counts timeout frozen) (counts_upward timeout frozen) (of_key key puts)
    ∙ sym (found_kept timeout frozen puts key)
    ∙ ap (found key) (sym stands)
    ∙ none)

-- ---- what is kept with one more record

-- what a record makes of what stands at its key
abbrev pub kept_with : (Stamped → Bool) → Option Stamped → Stamped → Option Stamped
kept_with p None s = cond (p s) (Some s) None
kept_with p (Some k) s = Some (cond (outranks s k) s k)

kept_at : (p : Stamped → Bool) → IsUpward p → (h s : Stamped) (ph ps above : Bool) → p h ≡ ph → p s ≡ ps → outranks s h ≡ above →
    cond (p (cond above s h)) (Some (cond above s h)) None ≡ kept_with p (cond ph (Some h) None) s
kept_at p up h s true true true at_h at_s at_above = rw (at_above, at_s) refl
kept_at p up h s true true false at_h at_s at_above = rw (at_above, at_h) refl
kept_at p up h s true false true at_h at_s at_above = let passed = up h s (outranks_one s h at_above) at_h in absurd (cc)
kept_at p up h s true false false at_h at_s at_above = rw (at_above, at_h) refl
kept_at p up h s false true true at_h at_s at_above = refl
kept_at p up h s false true false at_h at_s at_above = let passed = up s h at_above at_s in absurd (cc)
kept_at p up h s false false true at_h at_s at_above = refl
kept_at p up h s false false false at_h at_s at_above = rw (at_h, at_s) refl

kept_after : (p : Stamped → Bool) → IsUpward p → (t : Option Stamped) (s : Stamped) → option_filter p (after t s) ≡ kept_with p (option_filter p t) s
kept_after p up None s = refl
kept_after p up (Some h) s = kept_at p up h s (p h) (p s) (outranks s h) refl refl refl

kept_push_at : (p : Stamped → Bool) → IsUpward p → (records : List Stamped) (s : Stamped) (b : Bool) →
    option_filter p (highest (records ++ cond b (s ∷ []) [])) ≡ cond b (kept_with p (option_filter p (highest records)) s) (option_filter p (highest records))
kept_push_at p up records s true = ap (option_filter p) (highest_push records s) ∙ kept_after p up (highest records) s
kept_push_at p up records s false = ap (λ rs. option_filter p (highest rs)) (append-nil records)

found_push : (timeout : ℤ) (frozen : Option ℤ) (puts : List Stamped) (s : Stamped) (q : TrackKey) →
    found q (kept_of timeout frozen (puts ++ s ∷ [])) ≡ cond (is_eq (key_cmp q s.track.key)) (kept_with (counts timeout frozen) (found q (kept_of timeout frozen puts)) s) (found q (kept_of timeout frozen puts))
found_push timeout frozen puts s q =
    found_kept timeout frozen (puts ++ s ∷ []) q
    ∙ ap (λ rs. option_filter (counts timeout frozen) (highest rs)) (filter-append (λ (r : Stamped). eq_by_cmp key_cmp q r.track.key) puts (s ∷ []))
    ∙ kept_push_at (counts timeout frozen) (counts_upward timeout frozen) (of_key q puts) s (is_eq (key_cmp q s.track.key))
    ∙ ap (λ o. cond (is_eq (key_cmp q s.track.key)) (kept_with (counts timeout frozen) o s) o) (sym (found_kept timeout frozen puts q))

-- entries that hold this are what is kept with the record
put_is : (timeout : ℤ) (frozen : Option ℤ) (puts : List Stamped) (s : Stamped) (es fs : List (TrackKey × Stamped)) → es ≡ kept_of timeout frozen puts → IsStrictlySortedBy key_cmp (keys_in fs) →
    ((q : TrackKey) → found q fs ≡ cond (is_eq (key_cmp q s.track.key)) (kept_with (counts timeout frozen) (found q es) s) (found q es)) →
    fs ≡ kept_of timeout frozen (puts ++ s ∷ [])
put_is timeout frozen puts s es fs stands up holds =
    entries_known fs (kept_of timeout frozen (puts ++ s ∷ [])) up (kept_rise timeout frozen (puts ++ s ∷ []))
    (λ q. holds q
    ∙ ap (λ (rows : List (TrackKey × Stamped)). cond (is_eq (key_cmp q s.track.key)) (kept_with (counts timeout frozen) (found q rows) s) (found q rows)) stands
    ∙ sym (found_push timeout frozen puts s q))

stays_at : (p : Stamped → Bool) (s : Stamped) (es : List (TrackKey × Stamped)) (q : TrackKey) (b : Bool) → is_eq (key_cmp q s.track.key) ≡ b → kept_with p (found s.track.key es) s ≡ found s.track.key es →
    found q es ≡ cond b (kept_with p (found q es) s) (found q es)
stays_at p s es q true at same = let here = same_key q s.track.key at in sym (ap (λ k. kept_with p (found k es) s) here ∙ same ∙ sym (ap (λ k. found k es) here))
stays_at p s es q false at same = refl

-- where a record changes nothing at its key, what is kept stays
pub put_stays : (timeout : ℤ) (frozen : Option ℤ) (puts : List Stamped) (s : Stamped) (es : List (TrackKey × Stamped)) → es ≡ kept_of timeout frozen puts →
    kept_with (counts timeout frozen) (found s.track.key es) s ≡ found s.track.key es → es ≡ kept_of timeout frozen (puts ++ s ∷ [])
put_stays timeout frozen puts s es stands same =
    put_is timeout frozen puts s es es stands (rw stands (kept_rise timeout frozen puts)) (λ q. stays_at (counts timeout frozen) s es q (is_eq (key_cmp q s.track.key)) refl same)

inserted_at : (p : Stamped → Bool) (s : Stamped) (es fs : List (TrackKey × Stamped)) (q : TrackKey) (b : Bool) → is_eq (key_cmp q s.track.key) ≡ b → kept_with p (found s.track.key es) s ≡ Some s →
    found q fs ≡ cond b (Some s) (found q es) → found q fs ≡ cond b (kept_with p (found q es) s) (found q es)
inserted_at p s es fs q true at same here = here ∙ sym (ap (λ k. kept_with p (found k es) s) (same_key q s.track.key at) ∙ same)
inserted_at p s es fs q false at same here = here

-- where the record stands at its key, the entries with it are what is kept
pub put_inserts : (timeout : ℤ) (frozen : Option ℤ) (puts : List Stamped) (s : Stamped) (es : List (TrackKey × Stamped)) → es ≡ kept_of timeout frozen puts →
    kept_with (counts timeout frozen) (found s.track.key es) s ≡ Some s → insert_entry key_cmp es s.track.key s ≡ kept_of timeout frozen (puts ++ s ∷ [])
put_inserts timeout frozen puts s es stands same =
    let fs = insert_entry key_cmp es s.track.key s in
    put_is timeout frozen puts s es fs stands (rise_entry s.track.key s es (rw stands (kept_rise timeout frozen puts)))
    (λ q. inserted_at (counts timeout frozen) s es fs q (is_eq (key_cmp q s.track.key)) refl same (found_insert q s.track.key s es))

-- ---- the ways of a put

-- nothing is kept for the track
pub missing : (s : Stamped) (o : Option Stamped) → None ≡ told_of s o → o ≡ None
missing s None is = refl
missing s (Some k) is = absurd (cc)

pub told : (s : Stamped) (o : Option Stamped) (put : Put) → Some put ≡ told_of s o → put ≡ superseded_by (unless_outranked s o)
told s None put is = absurd (cc)
told s (Some k) put is = cc

-- the first record of a track stands if it counts, and changes nothing if it doesn't
pub first_stands : (p : Stamped → Bool) (s : Stamped) (o : Option Stamped) → o ≡ None → p s ≡ true → kept_with p o s ≡ Some s
first_stands p s o none passes = rw (none, passes) refl

pub first_stays : (p : Stamped → Bool) (s : Stamped) (o : Option Stamped) → o ≡ None → p s ≡ false → kept_with p o s ≡ o
first_stays p s o none fails = rw (none, fails) refl

above_at : (p : Stamped → Bool) (s k : Stamped) (b : Bool) → outranks s k ≡ b → Kept ≡ superseded_by (cond b None (Some k)) → kept_with p (Some k) s ≡ Some s
above_at p s k true at is = rw at refl
above_at p s k false at is = absurd (cc)

-- a record takes the place of one that it outranks
above_stands : (p : Stamped → Bool) (s : Stamped) (o : Option Stamped) → Some Kept ≡ told_of s o → kept_with p o s ≡ Some s
above_stands p s None is = absurd (cc)
above_stands p s (Some k) is = above_at p s k (outranks s k) refl (told s (Some k) Kept is)

below_at : (p : Stamped → Bool) (s k r : Stamped) (b : Bool) → outranks s k ≡ b → Superseded r ≡ superseded_by (cond b None (Some k)) → kept_with p (Some k) s ≡ Some k
below_at p s k r true at is = absurd (cc)
below_at p s k r false at is = rw at refl

-- and changes nothing where it doesn't
below_stays : (p : Stamped → Bool) (s : Stamped) (o : Option Stamped) (r : Stamped) → Some (Superseded r) ≡ told_of s o → kept_with p o s ≡ o
below_stays p s None r is = absurd (cc)
below_stays p s (Some k) r is = below_at p s k r (outranks s k) refl (told s (Some k) (Superseded r) is)

-- where a record is kept for the track, the entries are then what is kept
pub put_over_stands : (timeout : ℤ) (frozen : Option ℤ) (puts : List Stamped) (s : Stamped) (es fs : List (TrackKey × Stamped)) (put : Put) → es ≡ kept_of timeout frozen puts →
    Some put ≡ told_of s (found s.track.key es) → (Some put ≡ Some Kept → fs ≡ insert_entry key_cmp es s.track.key s) → ((Some put ≡ Some Kept → ⊥) → fs ≡ es) →
    fs ≡ kept_of timeout frozen (puts ++ s ∷ [])
put_over_stands timeout frozen puts s es fs Kept stands is written same =
    written refl ∙ put_inserts timeout frozen puts s es stands (above_stands (counts timeout frozen) s (found s.track.key es) is)
put_over_stands timeout frozen puts s es fs (Superseded r) stands is written same =
    same (λ e. cc) ∙ put_stays timeout frozen puts s es stands (below_stays (counts timeout frozen) s (found s.track.key es) r is)
