-- How many octets the usable records of a body take.
use Rattle.std.proofs.Common.{◌≡◌, ℕ, zero, suc, ◌+◌, ◌-◌, ◌*◌, ◌≤◌, Bool, true, false, cond, List, [], ◌∷◌, length, take, drop, Result, Ok, Err, None, Some, refl, ap, sym, ◌∙◌, arith, length-append, length-take-le, length-drop, eqb-true}
use Rattle.std.specs.Prelude.{◌==◌, ◌&&◌, is_some, count_by, slice_index}
use Rattle.std.proofs.lemmas.List.Sums.{sum_by-cons}
use Rattle.asterix_fields.specs.declared.fault.ItemFault.{ItemFault}
use Rattle.asterix_fields.specs.Spelling.{joined}
use Rattle.asterix_fields.specs.Reading.{AllReadAsSpelled}
use Rattle.cat062_read.specs.declared.record.Raw062.{Raw062}
use Rattle.cat062_read.specs.Contents.{contents, item, source}
use Rattle.cat062_read.specs.Records.{Spells062, reading, and_then, read_up_to, records}
use Rattle.cat062_read.specs.Tracks.{is_usable}
use Rattle.cat062_read.proofs.Readings.{what_is_read}

chosen : {X : Type 0} (b : Bool) (x : X) → is_some (cond b (Some x) None) ≡ true → b ≡ true
chosen true x h = refl
chosen false x h = h

source_long : (text : List ℕ) → is_some (source text) ≡ true → length text ≡ 2
source_long text h = eqb-true (length text) 2 (chosen (length text == 2) (slice_index text 0, slice_index text 1) h)

joined_long : (texts : List (List ℕ)) → length (item texts 1) ≡ 2 → 2 ≤ length (joined texts)
joined_long [] h = absurd (cc)
joined_long (text ∷ texts) h = omega (arith, length-append text (joined texts))

first_true : (a b c d : Bool) → (a && b && c && d) ≡ true → a ≡ true
first_true true b c d h = refl
first_true false b c d h = h

spelled_long : (text : List ℕ) (items : List (List ℕ)) → Spells062 text items → is_usable (contents items) ≡ true → 2 ≤ length text
unfolding Spells062
spelled_long text items spelled usable =
    let long : length text ≡ length spelled.presence + length (joined items) = ap length spelled.whole ∙ length-append spelled.presence (joined items) in
    let two : 2 ≤ length (joined items) = joined_long items (source_long (item items 1) (first_true _ _ _ _ usable)) in
    omega arith

counted : (usable : Bool) (others size long : ℕ) → (usable ≡ true → 2 ≤ size) → size ≤ long → others * 2 ≤ long - size → (cond usable 1 0 + others) * 2 ≤ long
counted true others size long some inside few = let two : 2 ≤ size = some refl in omega arith
counted false others size long some inside few = omega arith

count_front : (raw : Raw062) (others : List Raw062) → count_by is_usable (raw ∷ others) ≡ cond (is_usable raw) 1 0 + count_by is_usable others
count_front raw others = sum_by-cons (λ (x : Raw062). cond (is_usable x) 1 0) raw others

module _ (law : AllReadAsSpelled) where
  size_long : (bytes : List ℕ) (r : Raw062 × ℕ) → reading bytes ≡ Ok r → is_usable r.0 ≡ true → 2 ≤ r.1
  size_long bytes r e usable =
      let front = what_is_read law bytes r e in
      let size : length (take r.1 bytes) ≡ r.1 = length-take-le r.1 bytes front.inside in
      let long : 2 ≤ length (take r.1 bytes) = spelled_long (take r.1 bytes) front.items front.spelled (ap is_usable (sym front.read) ∙ usable) in
      omega arith

  few_step : (more : ℕ) (bytes : List ℕ) (read : Result (Raw062 × ℕ) ItemFault) → reading bytes ≡ read → ((rest : List ℕ) → count_by is_usable (read_up_to more rest).0 * 2 ≤ length rest)
      → count_by is_usable (and_then (read_up_to more) bytes read).0 * 2 ≤ length bytes
  few_step more bytes (Err f) e others = omega arith
  few_step more bytes (Ok r) e others =
      let front = what_is_read law bytes r e in
      let left : length (drop r.1 bytes) ≡ length bytes - r.1 = length-drop r.1 bytes in
      let later : List Raw062 = (read_up_to more (drop r.1 bytes)).0 in
      let few : count_by is_usable later * 2 ≤ length (drop r.1 bytes) = others (drop r.1 bytes) in
      rw (count_front r.0 later) (counted (is_usable r.0) (count_by is_usable later) r.1 (length bytes) (size_long bytes r e) front.inside (omega arith))

  few_up_to : (most : ℕ) (bytes : List ℕ) → count_by is_usable (read_up_to most bytes).0 * 2 ≤ length bytes
  unfolding read_up_to
  few_up_to zero bytes = omega arith
  few_up_to (suc more) bytes = few_step more bytes (reading bytes) refl (few_up_to more)

  pub few_usable : (body : List ℕ) → count_by is_usable (records body) * 2 ≤ length body
  unfolding records
  few_usable body = few_up_to (length body) body
