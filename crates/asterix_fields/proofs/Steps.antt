-- One step of each reader, from what is left before it to what is left after it.
use Rattle.std.proofs.Common.{◌≡◌, ℕ, suc, ◌+◌, ◌-◌, ◌%◌, ◌<◌, ◌≤◌, true, false, cond, eqb, List, [], ◌∷◌, ◌++◌, length, get_or, set, take, drop, Result, Ok, Err, Option, None, Some, refl, ap, sym, ◌∙◌, append_assoc, arith, eq-eqb, ◌≢◌}
use Rattle.std.specs.Option.{option_map}
use Rattle.std.proofs.lemmas.Bool.{ne_eqb}
use Rattle.std.proofs.lemmas.List.{drop_more, drop_all, take_all, take_more_set, append-nil}
use Rattle.asterix_fields.specs.declared.tables.Form.{Form}
use Rattle.asterix_fields.specs.declared.tables.Form.TheVariants.{Spare}
use Rattle.asterix_fields.specs.declared.places.Span.{Span}
use Rattle.asterix_fields.specs.declared.fault.ItemFault.{ItemFault}
use Rattle.asterix_fields.specs.declared.fault.ItemFault.TheVariants.{PastEnd, SpareSubfield}
use Rattle.asterix_fields.specs.Spelling.{is_named}
use Rattle.asterix_fields.specs.Faults.{◌>>=◌, unless, first_named, presence_at, primary_at, spare_subfield, extended_at, named_at, simple_at, item_at, spans_at, end_of, fspec_at, compound_at, record_at, no_more}

-- places that were found before
abbrev pub behind : List Span → Result (List Span × ℕ) ItemFault → Result (List Span × ℕ) ItemFault
behind front read = read >>= λ found. Ok (front ++ found.0, found.1)

pub first_named_step : (octets : List ℕ) (end number : ℕ) → number < end
    → first_named octets (end - number) number ≡ cond (is_named octets number) (Some number) (first_named octets (end - (number + 1)) (number + 1))
unfolding first_named
first_named_step octets end number h =
    let k : end - number ≡ suc (end - (number + 1)) = omega arith in
    rw k refl

pub first_named_end : (octets : List ℕ) (end number : ℕ) → end ≤ number → first_named octets (end - number) number ≡ None
unfolding first_named
first_named_end octets end number h =
    let k : end - number ≡ 0 = omega arith in
    rw k refl

pub presence_step : (spare : ℕ → Option ItemFault) (past long : ItemFault) (bytes : List ℕ) (index : ℕ) → index < length bytes
    → presence_at spare past long index (drop index bytes)
    ≡ unless (spare index) (cond (eqb (get_or bytes index 0 % 2) 0) (Ok (index + 1)) (cond (eqb (index + 1) 5) (Err long) (presence_at spare past long (index + 1) (drop (index + 1) bytes))))
unfolding presence_at
presence_step spare past long bytes index h = rw (drop_more bytes index 0 h) refl

pub presence_end : (spare : ℕ → Option ItemFault) (past long : ItemFault) (bytes : List ℕ) (index : ℕ) → length bytes ≤ index
    → presence_at spare past long index (drop index bytes) ≡ Err past
unfolding presence_at
presence_end spare past long bytes index h = rw (drop_all index bytes h) refl

pub extended_step : (frn size left : ℕ) (bytes : List ℕ) (index : ℕ) → index < length bytes
    → extended_at frn size left index (drop index bytes)
    ≡ cond (eqb left 1) (cond (eqb (get_or bytes index 0 % 2) 0) (Ok (index + 1)) (extended_at frn size size (index + 1) (drop (index + 1) bytes))) (extended_at frn size (left - 1) (index + 1) (drop (index + 1) bytes))
unfolding extended_at
extended_step frn size left bytes index h = rw (drop_more bytes index 0 h) refl

pub extended_end : (frn size left : ℕ) (bytes : List ℕ) (index : ℕ) → length bytes ≤ index
    → extended_at frn size left index (drop index bytes) ≡ Err (PastEnd frn)
unfolding extended_at
extended_end frn size left bytes index h = rw (drop_all index bytes h) refl

pub spans_step : (item_at : ℕ → Form → List ℕ → Result ℕ ItemFault) (presence : List ℕ) (at : ℕ) (forms : List Form) (bytes : List ℕ) (index : ℕ) → index < length forms
    → spans_at item_at presence (index + 1) at (drop index forms) bytes
    ≡ (named_at item_at presence (index + 1) (get_or forms index Spare) bytes >>= λ size. behind (record { at = at; len = size } ∷ []) (spans_at item_at presence (index + 1 + 1) (at + size) (drop (index + 1) forms) (drop size bytes)))
unfolding spans_at
spans_step item_at presence at forms bytes index h = rw (drop_more forms index Spare h) refl

pub spans_end : (item_at : ℕ → Form → List ℕ → Result ℕ ItemFault) (presence : List ℕ) (at : ℕ) (forms : List Form) (bytes : List ℕ) (index : ℕ) → length forms ≤ index
    → spans_at item_at presence (index + 1) at (drop index forms) bytes ≡ Ok ([], at)
unfolding spans_at
spans_end item_at presence at forms bytes index h = rw (drop_all index forms h) refl

pub end_of-behind : (front : List Span) (read : Result (List Span × ℕ) ItemFault) → end_of (behind front read) ≡ end_of read
end_of-behind front (Ok x) = refl
end_of-behind front (Err e) = refl

pub behind-behind : (front more : List Span) (read : Result (List Span × ℕ) ItemFault) → behind front (behind more read) ≡ behind (front ++ more) read
behind-behind front more (Ok x) = ap (λ (spans : List Span). Ok (spans, x.1)) (sym (append_assoc front more x.0))
behind-behind front more (Err e) = refl

pub spans_stop : (item_at : ℕ → Form → List ℕ → Result ℕ ItemFault) (presence : List ℕ) (at : ℕ) (forms : List Form) (bytes : List ℕ) (index : ℕ) (fault : ItemFault) → index < length forms
    → named_at item_at presence (index + 1) (get_or forms index Spare) bytes ≡ Err fault
    → spans_at item_at presence (index + 1) at (drop index forms) bytes ≡ Err fault
spans_stop item_at presence at forms bytes index fault h e = spans_step item_at presence at forms bytes index h ∙ rw e refl

pub spans_go_on : (item_at : ℕ → Form → List ℕ → Result ℕ ItemFault) (presence : List ℕ) (at : ℕ) (forms : List Form) (bytes : List ℕ) (index size : ℕ) → index < length forms
    → named_at item_at presence (index + 1) (get_or forms index Spare) bytes ≡ Ok size
    → spans_at item_at presence (index + 1) at (drop index forms) bytes
    ≡ behind (record { at = at; len = size } ∷ []) (spans_at item_at presence (index + 1 + 1) (at + size) (drop (index + 1) forms) (drop size bytes))
spans_go_on item_at presence at forms bytes index size h e = spans_step item_at presence at forms bytes index h ∙ rw e refl

-- a primary subfield from octet `index` on
unfoldable pub primary_from : (frn rows : ℕ) (bytes : List ℕ) (index : ℕ) → Result ℕ ItemFault
primary_from frn rows bytes index = presence_at (λ i. option_map (SpareSubfield frn) (spare_subfield bytes rows i)) (PastEnd frn) (SpareSubfield frn 36) index (drop index bytes)

pub primary_start : (frn rows : ℕ) (bytes : List ℕ) → primary_from frn rows bytes 0 ≡ primary_at frn rows bytes
unfolding primary_from
primary_start frn rows bytes = refl

primary_step : (frn rows : ℕ) (bytes : List ℕ) (index : ℕ) → index < length bytes
    → primary_from frn rows bytes index
    ≡ unless (option_map (SpareSubfield frn) (spare_subfield bytes rows index)) (cond (eqb (get_or bytes index 0 % 2) 0) (Ok (index + 1)) (cond (eqb (index + 1) 5) (Err (SpareSubfield frn 36)) (primary_from frn rows bytes (index + 1))))
unfolding primary_from
primary_step frn rows bytes index h = presence_step (λ i. option_map (SpareSubfield frn) (spare_subfield bytes rows i)) (PastEnd frn) (SpareSubfield frn 36) bytes index h

pub primary_spare : (frn rows : ℕ) (bytes : List ℕ) (index number : ℕ) → index < length bytes → spare_subfield bytes rows index ≡ Some number
    → primary_from frn rows bytes index ≡ Err (SpareSubfield frn number)
primary_spare frn rows bytes index number h e = primary_step frn rows bytes index h ∙ rw e refl

pub primary_last : (frn rows : ℕ) (bytes : List ℕ) (index : ℕ) → index < length bytes → spare_subfield bytes rows index ≡ None → get_or bytes index 0 % 2 ≡ 0
    → primary_from frn rows bytes index ≡ Ok (index + 1)
primary_last frn rows bytes index h e even = primary_step frn rows bytes index h ∙ rw (e, even) refl

pub primary_fifth : (frn rows : ℕ) (bytes : List ℕ) (index : ℕ) → index < length bytes → spare_subfield bytes rows index ≡ None → get_or bytes index 0 % 2 ≢ 0 → index + 1 ≡ 5
    → primary_from frn rows bytes index ≡ Err (SpareSubfield frn 36)
primary_fifth frn rows bytes index h e odd fifth =
    let more : eqb (get_or bytes index 0 % 2) 0 ≡ false = ne_eqb _ _ odd in
    let last : eqb (index + 1) 5 ≡ true = eq-eqb (index + 1) 5 fifth in
    primary_step frn rows bytes index h ∙ rw (e, more, last) refl

pub primary_next : (frn rows : ℕ) (bytes : List ℕ) (index : ℕ) → index < length bytes → spare_subfield bytes rows index ≡ None → get_or bytes index 0 % 2 ≢ 0 → index + 1 ≢ 5
    → primary_from frn rows bytes index ≡ primary_from frn rows bytes (index + 1)
primary_next frn rows bytes index h e odd few =
    let more : eqb (get_or bytes index 0 % 2) 0 ≡ false = ne_eqb _ _ odd in
    let before : eqb (index + 1) 5 ≡ false = ne_eqb (index + 1) 5 few in
    primary_step frn rows bytes index h ∙ rw (e, more, before) refl

pub primary_past : (frn rows : ℕ) (bytes : List ℕ) (index : ℕ) → length bytes ≤ index → primary_from frn rows bytes index ≡ Err (PastEnd frn)
unfolding primary_from
primary_past frn rows bytes index h = presence_end (λ i. option_map (SpareSubfield frn) (spare_subfield bytes rows i)) (PastEnd frn) (SpareSubfield frn 36) bytes index h

-- where subfields end, from row `index` on
unfoldable pub subfields_from : (frn : ℕ) (presence : List ℕ) (rows : List Form) (index at : ℕ) (bytes : List ℕ) → Result ℕ ItemFault
subfields_from frn presence rows index at bytes = end_of (spans_at (λ number. simple_at frn) presence (index + 1) at (drop index rows) bytes)

pub subfields_start : (frn : ℕ) (presence : List ℕ) (rows : List Form) (at : ℕ) (bytes : List ℕ)
    → subfields_from frn presence rows 0 at bytes ≡ end_of (spans_at (λ number. simple_at frn) presence 1 at rows bytes)
unfolding subfields_from
subfields_start frn presence rows at bytes = refl

pub subfields_stop : (frn : ℕ) (presence : List ℕ) (rows : List Form) (index at : ℕ) (bytes : List ℕ) (fault : ItemFault) → index < length rows
    → named_at (λ number. simple_at frn) presence (index + 1) (get_or rows index Spare) bytes ≡ Err fault
    → subfields_from frn presence rows index at bytes ≡ Err fault
unfolding subfields_from
subfields_stop frn presence rows index at bytes fault h e = rw (spans_stop (λ number. simple_at frn) presence at rows bytes index fault h e) refl

pub subfields_next : (frn : ℕ) (presence : List ℕ) (rows : List Form) (index at : ℕ) (bytes : List ℕ) (size : ℕ) → index < length rows
    → named_at (λ number. simple_at frn) presence (index + 1) (get_or rows index Spare) bytes ≡ Ok size
    → subfields_from frn presence rows index at bytes ≡ subfields_from frn presence rows (index + 1) (at + size) (drop size bytes)
unfolding subfields_from
subfields_next frn presence rows index at bytes size h e =
    ap end_of (spans_go_on (λ number. simple_at frn) presence at rows bytes index size h e) ∙ end_of-behind (record { at = at; len = size } ∷ []) (spans_at (λ number. simple_at frn) presence (index + 1 + 1) (at + size) (drop (index + 1) rows) (drop size bytes))

pub subfields_done : (frn : ℕ) (presence : List ℕ) (rows : List Form) (index at : ℕ) (bytes : List ℕ) → length rows ≤ index
    → subfields_from frn presence rows index at bytes ≡ Ok at
unfolding subfields_from
subfields_done frn presence rows index at bytes h = rw (spans_end (λ number. simple_at frn) presence at rows bytes index h) refl

-- the places so far, and then those of the items from row `index` on
unfoldable pub items_from : (subs : List Form) (fspec : List ℕ) (uap : List Form) (spans : List Span) (index at : ℕ) (bytes : List ℕ) → Result (List Span × ℕ) ItemFault
items_from subs fspec uap spans index at bytes = behind (take index spans) (spans_at (item_at subs) fspec (index + 1) at (drop index uap) bytes)

pub behind-nothing : (read : Result (List Span × ℕ) ItemFault) → behind [] read ≡ read
behind-nothing (Ok x) = refl
behind-nothing (Err e) = refl

pub items_start : (subs : List Form) (fspec : List ℕ) (uap : List Form) (spans : List Span) (at : ℕ) (bytes : List ℕ)
    → items_from subs fspec uap spans 0 at bytes ≡ spans_at (item_at subs) fspec 1 at uap bytes
unfolding items_from
items_start subs fspec uap spans at bytes = behind-nothing (spans_at (item_at subs) fspec 1 at uap bytes)

pub items_stop : (subs : List Form) (fspec : List ℕ) (uap : List Form) (spans : List Span) (index at : ℕ) (bytes : List ℕ) (fault : ItemFault) → index < length uap
    → named_at (item_at subs) fspec (index + 1) (get_or uap index Spare) bytes ≡ Err fault
    → items_from subs fspec uap spans index at bytes ≡ Err fault
unfolding items_from
items_stop subs fspec uap spans index at bytes fault h e = rw (spans_stop (item_at subs) fspec at uap bytes index fault h e) refl

pub items_next : (subs : List Form) (fspec : List ℕ) (uap : List Form) (spans : List Span) (index at : ℕ) (bytes : List ℕ) (size : ℕ) → index < length uap → length spans ≡ length uap
    → named_at (item_at subs) fspec (index + 1) (get_or uap index Spare) bytes ≡ Ok size
    → items_from subs fspec uap spans index at bytes ≡ items_from subs fspec uap (set spans index (record { at = at; len = size })) (index + 1) (at + size) (drop size bytes)
unfolding items_from
items_next subs fspec uap spans index at bytes size h same e =
    let span : Span = record { at = at; len = size } in
    let after : Result (List Span × ℕ) ItemFault = spans_at (item_at subs) fspec (index + 1 + 1) (at + size) (drop (index + 1) uap) (drop size bytes) in
    let within : index < length spans = omega arith in
    let front : take (index + 1) (set spans index span) ≡ take index spans ++ span ∷ [] = take_more_set spans index span within in
    ap (behind (take index spans)) (spans_go_on (item_at subs) fspec at uap bytes index size h e)
    ∙ behind-behind (take index spans) (span ∷ []) after
    ∙ ap (λ (done : List Span). behind done after) (sym front)

pub items_done : (subs : List Form) (fspec : List ℕ) (uap : List Form) (spans : List Span) (index at : ℕ) (bytes : List ℕ) → length uap ≤ index → length spans ≡ length uap
    → items_from subs fspec uap spans index at bytes ≡ Ok (spans, at)
unfolding items_from
items_done subs fspec uap spans index at bytes h same =
    let all : take index spans ≡ spans = take_all index spans (omega arith) in
    rw (spans_end (item_at subs) fspec at uap bytes index h, all) (ap (λ (found : List Span). Ok (found, at)) (append-nil spans))

pub compound_stop : (frn : ℕ) (rows : List Form) (bytes : List ℕ) (fault : ItemFault) → primary_at frn (length rows) bytes ≡ Err fault → compound_at frn rows bytes ≡ Err fault
unfolding compound_at
compound_stop frn rows bytes fault e = rw e refl

pub compound_next : (frn : ℕ) (rows : List Form) (bytes : List ℕ) (primary : ℕ) → primary_at frn (length rows) bytes ≡ Ok primary
    → compound_at frn rows bytes ≡ end_of (spans_at (λ number. simple_at frn) (take primary bytes) 1 primary rows (drop primary bytes))
unfolding compound_at
compound_next frn rows bytes primary e = rw e refl

pub record_no_fspec : (uap subs : List Form) (bytes : List ℕ) (fault : ItemFault) → fspec_at bytes ≡ Err fault → record_at uap subs bytes ≡ Err fault
unfolding record_at
record_no_fspec uap subs bytes fault e = rw e refl

pub record_no_items : (uap subs : List Form) (bytes : List ℕ) (fspec : ℕ) (fault : ItemFault) → fspec_at bytes ≡ Ok fspec
    → spans_at (item_at subs) (take fspec bytes) 1 fspec uap (drop fspec bytes) ≡ Err fault → record_at uap subs bytes ≡ Err fault
unfolding record_at
record_no_items uap subs bytes fspec fault e f = rw (e, f) refl

pub record_too_many : (uap subs : List Form) (bytes : List ℕ) (fspec : ℕ) (found : List Span × ℕ) (fault : ItemFault) → fspec_at bytes ≡ Ok fspec
    → spans_at (item_at subs) (take fspec bytes) 1 fspec uap (drop fspec bytes) ≡ Ok found
    → no_more (first_named (take fspec bytes) (35 - length uap) (length uap + 1)) ≡ Err fault → record_at uap subs bytes ≡ Err fault
unfolding record_at
record_too_many uap subs bytes fspec found fault e f g = rw (e, f, g) refl

pub record_done : (uap subs : List Form) (bytes : List ℕ) (fspec : ℕ) (found : List Span × ℕ) (none : ℕ) → fspec_at bytes ≡ Ok fspec
    → spans_at (item_at subs) (take fspec bytes) 1 fspec uap (drop fspec bytes) ≡ Ok found
    → no_more (first_named (take fspec bytes) (35 - length uap) (length uap + 1)) ≡ Ok none → record_at uap subs bytes ≡ Ok found
unfolding record_at
record_done uap subs bytes fspec found none e f g = rw (e, f, g) refl
