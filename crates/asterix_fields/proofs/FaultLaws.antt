-- What a reader answers where it fails is the first fault.
use Rattle.std.proofs.Common.{◌≡◌, ℕ, zero, suc, ◌+◌, ◌-◌, ◌*◌, ◌/◌, ◌%◌, ◌<◌, ◌≤◌, max, ◌⊎◌, inl, inr, true, false, cond, eqb, ltb, IsTrue, List, [], ◌∷◌, ◌++◌, length, get_or, take, Ok, Err, Option, None, Some, refl, ap, sym, ◌∙◌, subst, arith, ltb-true}
use Rattle.std.specs.Option.{option_map}
use Rattle.std.proofs.lemmas.Bool.{eqb-true, eqb-false, cases_eq, cases_lt, leb-true}
use Rattle.std.proofs.Math.Dec.{eqb-suc-zero}
use Rattle.std.proofs.lemmas.List.{length-take-le, take_all}
use Rattle.asterix_fields.specs.declared.tables.Form.{Form}
use Rattle.asterix_fields.specs.declared.tables.Form.TheVariants.{Spare, Fixed, Extended, Explicit, Repeat, Compound}
use Rattle.asterix_fields.specs.declared.fault.ItemFault.{ItemFault}
use Rattle.asterix_fields.specs.declared.fault.ItemFault.TheVariants.{LongFspec, PastEnd, SpareItem, SpareSubfield, ZeroLength}
use Rattle.asterix_fields.specs.Tables.{has_length}
use Rattle.asterix_fields.specs.Spelling.{joined, is_named}
use Rattle.asterix_fields.specs.Faults.{◌>>=◌, unless, first_named, so_many, extended_at, explicit_at, repeated_at, simple_at, presence_at, fspec_at, primary_at, spare_subfield}
use Rattle.asterix_fields.specs.FirstFault.{AllAsk, IsCut, IsLong, FspecFails, NamesRowsOnly, PrimaryFails, ArePartsOnly, ExplicitFails, RepeatFails, SimpleFails}
use Rattle.asterix_fields.proofs.PresenceLaws.{Read, chosen, more_none, spare_none, named_take, named_past}

pub err_is : {A : Type 0} (x y : ItemFault) → (let r : Read A = Err x in r ≡ Err y) → x ≡ y
err_is x y e = cc

pub not_err : {A P : Type 0} (x : A) (fault : ItemFault) → (let r : Read A = Ok x in r ≡ Err fault) → P
not_err x fault e = absurd (cc)

pub bind_err : {A B : Type 0} (read : Read A) (f : A → Read B) (fault : ItemFault) → (read >>= f) ≡ Err fault → (read ≡ Err fault) ⊎ ((x : A) × (read ≡ Ok x) × (f x ≡ Err fault))
bind_err {A} {B} (Ok x) f fault e = inr (x, refl, e)
bind_err {A} {B} (Err other) f fault e = inl (let same : other ≡ fault = err_is {A = B} other fault e in ap (λ (d : ItemFault). Err d) same)

-- ---- presence octets

unless_err : (spare : Option ItemFault) (next : Read ℕ) (fault : ItemFault) → unless spare next ≡ Err fault → (spare ≡ Some fault) ⊎ ((spare ≡ None) × (next ≡ Err fault))
unless_err None next fault e = inr (refl, e)
unless_err (Some other) next fault e = inl (ap (λ (d : ItemFault). Some d) (err_is {A = ℕ} other fault e))

-- why presence octets fail, after so many that ask for another
abbrev Why : (ℕ → Option ItemFault) → ItemFault → ItemFault → ℕ → ℕ → ItemFault → Type 0
Why spare past long end length fault =
    ((end ≡ length) × (end < 5) × (fault ≡ past)) ⊎ (((end < length) × (end < 5) × (spare end ≡ Some fault)) ⊎ ((end ≡ 5) × (fault ≡ long)))

record Breaks (spare : ℕ → Option ItemFault) (past long : ItemFault) (index : ℕ) (bytes : List ℕ) (fault : ItemFault) : Type 0 where
  taken : ℕ
  asks : AllAsk (take taken bytes)
  inside : taken ≤ length bytes
  none : (i : ℕ) → index ≤ i → i < index + taken → spare i ≡ None
  why : Why spare past long (index + taken) (index + length bytes) fault

presence_breaks : (spare : ℕ → Option ItemFault) (past long : ItemFault) (index : ℕ) (bytes : List ℕ) (fault : ItemFault) → index ≤ 4 → presence_at spare past long index bytes ≡ Err fault → Breaks spare past long index bytes fault
unfolding presence_at
presence_breaks spare past long index [] fault few e =
    record { taken = 0; asks = tt; inside = omega arith; none = λ i low high. absurd (omega arith); why = inl (refl, omega arith, sym (err_is {A = ℕ} past fault e)) }
presence_breaks spare past long index (octet ∷ rest) fault few e =
    let after : Read ℕ = presence_at spare past long (index + 1) rest in
    let next : Read ℕ = cond (eqb (index + 1) 5) (Err long) after in
    elim (unless_err (spare index) (cond (eqb (octet % 2) 0) (Ok (index + 1)) next) fault e) [
      | inl here ↦
          let zero_more : index + 0 ≡ index = omega arith in
          record {
            taken = 0;
            asks = tt;
            inside = omega arith;
            none = λ i low high. absurd (omega arith);
            why = inr (inl (omega arith, omega arith, ap spare zero_more ∙ here));
          }
      | inr here ↦
          elim (chosen (eqb (octet % 2) 0) (Ok (index + 1)) next (Err fault) here.1) [
            | inl w ↦ not_err (index + 1) fault w.1
            | inr w ↦
                let odd : octet % 2 ≡ 1 = let ne = eqb-false _ _ w.0 in omega arith in
                elim (chosen (eqb (index + 1) 5) (Err long) after (Err fault) w.1) [
                  | inl v ↦
                      let fifth : index + 1 ≡ 5 = eqb-true _ _ v.0 in
                      record {
                        taken = 1;
                        asks = (odd, tt);
                        inside = omega arith;
                        none = more_none spare index (index + 1) here.0 (λ i low high. absurd (omega arith));
                        why = inr (inr (omega arith, sym (err_is {A = ℕ} long fault v.1)));
                      }
                  | inr v ↦
                      let before : index + 1 ≡ 5 → ⊥ = eqb-false _ _ v.0 in
                      let t = presence_breaks spare past long (index + 1) rest fault (omega arith) v.1 in
                      let end : index + 1 + t.taken ≡ index + suc t.taken = omega arith in
                      let size : index + 1 + length rest ≡ index + length (octet ∷ rest) = omega arith in
                      let reason : Why spare past long (index + suc t.taken) (index + length (octet ∷ rest)) fault =
                      subst (λ (n : ℕ). Why spare past long n (index + length (octet ∷ rest)) fault) end
                      (subst (λ (n : ℕ). Why spare past long (index + 1 + t.taken) n fault) size t.why) in
                      record {
                        taken = suc t.taken;
                        asks = (odd, t.asks);
                        inside = let i = t.inside in omega arith;
                        none = more_none spare index (index + suc t.taken) here.0 (λ i low high. t.none i low (omega arith));
                        why = reason;
                      }
                ]
          ]
    ]

cut_whole : (bytes : List ℕ) (taken : ℕ) → 0 + taken ≡ 0 + length bytes → 0 + taken < 5 → AllAsk (take taken bytes) → IsCut bytes
cut_whole bytes taken same few asks =
    let all : take taken bytes ≡ bytes = take_all taken bytes (omega arith) in
    (subst (λ (octets : List ℕ). AllAsk octets) all asks, omega arith)

long_whole : (bytes : List ℕ) (taken : ℕ) → 0 + taken ≡ 5 → taken ≤ length bytes → AllAsk (take taken bytes) → IsLong bytes
long_whole bytes taken same inside asks =
    let five : taken ≡ 5 = omega arith in
    (subst (λ (n : ℕ). AllAsk (take n bytes)) five asks, omega arith)

pub fspec_breaks : (bytes : List ℕ) (fault : ItemFault) → fspec_at bytes ≡ Err fault → FspecFails bytes fault
fspec_breaks bytes fault e =
    let t = presence_breaks (λ index. None) (PastEnd 0) LongFspec 0 bytes fault (omega arith) e in
    elim t.why [
      | inl w ↦ inl (cut_whole bytes t.taken w.0 w.1 t.asks, w.2)
      | inr v ↦ elim v [
        | inl w ↦ absurd (let n = w.2 in cc)
        | inr w ↦ inr (long_whole bytes t.taken w.0 t.inside t.asks, w.1)
      ]
    ]

pub first_named_some : (octets : List ℕ) (count number found : ℕ) → first_named octets count number ≡ Some found
    → (number ≤ found) × (found < number + count) × (is_named octets found ≡ true) × ((i : ℕ) → number ≤ i → i < found → is_named octets i ≡ false)
unfolding first_named
first_named_some octets zero number found e = absurd (cc)
first_named_some octets (suc count) number found e =
    elim (chosen (is_named octets number) (Some number) (first_named octets count (number + 1)) (Some found) e) [
      | inl w ↦
          let same : number ≡ found = let s = w.1 in cc in
          (omega arith, omega arith, ap (is_named octets) (sym same) ∙ w.0, λ i low high. absurd (omega arith))
      | inr w ↦
          let t = first_named_some octets count (number + 1) found w.1 in
          let low' = t.0 in
          let high' = t.1 in (
            omega arith,
            omega arith,
            t.2,
            λ i low high. elim (cases_eq i number) [
              | inl same ↦ ap (is_named octets) same ∙ w.0
              | inr apart ↦ t.3 i (omega arith) high
            ],
          )
    ]

map_some : (f : ℕ → ItemFault) (found : Option ℕ) (fault : ItemFault) → option_map f found ≡ Some fault → (x : ℕ) × (found ≡ Some x) × (fault ≡ f x)
map_some f None fault e = absurd (cc)
map_some f (Some x) fault e = (x, refl, cc)

map_none : (f : ℕ → ItemFault) (found : Option ℕ) → option_map f found ≡ None → found ≡ None
map_none f None e = refl
map_none f (Some x) e = absurd (cc)

rows_only : (rows : ℕ) (bytes : List ℕ) (size : ℕ) → size ≤ length bytes → ((i : ℕ) → i < size → spare_subfield bytes rows i ≡ None) → NamesRowsOnly rows (take size bytes)
rows_only rows bytes size inside none number past =
    let long : length (take size bytes) ≡ size = length-take-le size bytes inside in
    elim (cases_lt (7 * size) number) [
      | inl beyond ↦ named_past (take size bytes) number (omega arith)
      | inr within ↦
          named_take bytes size number (omega arith) within
          ∙ spare_none bytes rows ((number - 1) / 7) (none ((number - 1) / 7) (omega arith)) number (omega arith) (omega arith) past
    ]

pub primary_breaks : (frn rows : ℕ) (bytes : List ℕ) (fault : ItemFault) → primary_at frn rows bytes ≡ Err fault → PrimaryFails frn rows bytes fault
primary_breaks frn rows bytes fault e =
    let t = presence_breaks (λ index. option_map (SpareSubfield frn) (spare_subfield bytes rows index)) (PastEnd frn) (SpareSubfield frn 36) 0 bytes fault (omega arith) e in
    let none : (i : ℕ) → i < t.taken → spare_subfield bytes rows i ≡ None = λ i h. map_none (SpareSubfield frn) (spare_subfield bytes rows i) (t.none i (omega arith) (omega arith)) in
    elim t.why [
      | inl w ↦
          let same = w.0 in
          let all : take t.taken bytes ≡ bytes = take_all t.taken bytes (omega arith) in
          inr (inl (cut_whole bytes t.taken w.0 w.1 t.asks, subst (λ (octets : List ℕ). NamesRowsOnly rows octets) all (rows_only rows bytes t.taken t.inside none), w.2))
      | inr v ↦ elim v [
        | inl w ↦
            let few = w.1 in
            let index : ℕ = 0 + t.taken in
            let m = map_some (SpareSubfield frn) (spare_subfield bytes rows index) fault w.2 in
            let number : ℕ = m.0 in
            let from : ℕ = max (7 * index + 1) (rows + 1) in
            let f = first_named_some bytes (7 * index + 8 - from) from number m.1 in
            let low = f.0 in
            let high = f.1 in
            let place : t.taken ≡ (number - 1) / 7 = omega arith in
            let first : (earlier : ℕ) → rows < earlier → earlier < number → is_named bytes earlier ≡ false = λ earlier past before.
            elim (cases_lt earlier from) [
              | inl short ↦ spare_none bytes rows ((earlier - 1) / 7) (none ((earlier - 1) / 7) (omega arith)) earlier (omega arith) (omega arith) past
              | inr far ↦ f.3 earlier far before
            ] in
            inl (number, record { named = f.2; past = omega arith; first = first; few = omega arith; asked_for = subst (λ (n : ℕ). AllAsk (take n bytes)) place t.asks }, m.2)
        | inr w ↦
            let five : t.taken ≡ 5 = let s = w.0 in omega arith in
            inr (inr (long_whole bytes t.taken w.0 t.inside t.asks, subst (λ (n : ℕ). NamesRowsOnly rows (take n bytes)) five (rows_only rows bytes t.taken t.inside none), w.1))
      ]
    ]

-- ---- items that aren't compound

so_many_breaks : (frn size : ℕ) (bytes : List ℕ) (fault : ItemFault) → so_many frn size bytes ≡ Err fault → (length bytes < size) × (fault ≡ PastEnd frn)
so_many_breaks frn size bytes fault e =
    elim (chosen (ltb (length bytes) size) (Err (PastEnd frn)) (Ok size) (Err fault) e) [
      | inl w ↦ (ltb-true _ _ w.0, sym (err_is {A = ℕ} (PastEnd frn) fault w.1))
      | inr w ↦ not_err size fault w.1
    ]

-- parts that all ask for another, of which the first has only so many octets
abbrev AskFrom : ℕ → ℕ → List (List ℕ) → List ℕ → Type 0
AskFrom size left [] rest = length rest < left
AskFrom size left (part ∷ parts) rest = (length part ≡ left) × (get_or part (left - 1) 0 % 2 ≡ 1) × AskFrom size size parts rest

parts_only : (size : ℕ) (parts : List (List ℕ)) (rest : List ℕ) → AskFrom size size parts rest → ArePartsOnly size parts rest
parts_only size [] rest h = h
parts_only size (part ∷ parts) rest h = (h.0, h.1, parts_only size parts rest h.2)

AllParts : ℕ → ℕ → List ℕ → Type 0
AllParts size left bytes = (parts : List (List ℕ)) × (rest : List ℕ) × AskFrom size left parts rest × (bytes ≡ joined parts ++ rest)

grow : (size left octet : ℕ) (bytes : List ℕ) (parts : List (List ℕ)) (rest : List ℕ) → 1 ≤ left → AskFrom size left parts rest → bytes ≡ joined parts ++ rest → AllParts size (left + 1) (octet ∷ bytes)
unfolding AllParts
grow size left octet bytes [] rest low h same = ([], octet ∷ rest, omega arith, ap (λ (b : List ℕ). octet ∷ b) same)
grow size left octet bytes (part ∷ parts) rest low h same =
    let long = h.0 in
    let k : left + 1 - 1 ≡ suc (left - 1) = omega arith in
    let last : get_or (octet ∷ part) (left + 1 - 1) 0 ≡ get_or part (left - 1) 0 = rw k refl in
    ((octet ∷ part) ∷ parts, rest, (omega arith, ap (λ (n : ℕ). n % 2) last ∙ h.1, h.2), ap (λ (b : List ℕ). octet ∷ b) same)

extended_breaks : (frn size left index : ℕ) (bytes : List ℕ) (fault : ItemFault) → 1 ≤ left → 1 ≤ size → extended_at frn size left index bytes ≡ Err fault → AllParts size left bytes × (fault ≡ PastEnd frn)
unfolding extended_at AllParts
extended_breaks frn size left index [] fault low least e = (([], [], omega arith, refl), sym (err_is {A = ℕ} (PastEnd frn) fault e))
extended_breaks frn size left index (octet ∷ rest) fault low least e =
    let after : Read ℕ = extended_at frn size size (index + 1) rest in
    let within : Read ℕ = extended_at frn size (left - 1) (index + 1) rest in
    elim (chosen (eqb left 1) (cond (eqb (octet % 2) 0) (Ok (index + 1)) after) within (Err fault) e) [
      | inl w ↦
          let one : left ≡ 1 = eqb-true _ _ w.0 in
          elim (chosen (eqb (octet % 2) 0) (Ok (index + 1)) after (Err fault) w.1) [
            | inl v ↦ not_err (index + 1) fault v.1
            | inr v ↦
                let odd : octet % 2 ≡ 1 = let ne = eqb-false _ _ v.0 in omega arith in
                let t = extended_breaks frn size size (index + 1) rest fault least least v.1 in
                (subst (λ (k : ℕ). AllParts size k (octet ∷ rest)) (sym one) ((octet ∷ []) ∷ t.0.0, t.0.1, (refl, odd, t.0.2), ap (λ (b : List ℕ). octet ∷ b) t.0.3), t.1)
          ]
      | inr w ↦
          let more : 1 ≤ left - 1 = let ne = eqb-false _ _ w.0 in omega arith in
          let back : left - 1 + 1 ≡ left = omega arith in
          let t = extended_breaks frn size (left - 1) (index + 1) rest fault more least w.1 in
          (subst (λ (k : ℕ). AllParts size k (octet ∷ rest)) back (grow size (left - 1) octet rest t.0.0 t.0.1 more t.0.2 t.0.3), t.1)
    ]

explicit_breaks : (frn : ℕ) (bytes : List ℕ) (fault : ItemFault) → explicit_at frn bytes ≡ Err fault → ExplicitFails frn bytes fault
explicit_breaks frn [] fault e = sym (err_is {A = ℕ} (PastEnd frn) fault e)
explicit_breaks frn (zero ∷ rest) fault e = sym (err_is {A = ℕ} (ZeroLength frn) fault e)
explicit_breaks frn (suc more ∷ rest) fault e =
    let some : eqb (suc more) 0 ≡ false = eqb-suc-zero more in
    let read : so_many frn (suc more) (suc more ∷ rest) ≡ Err fault = rw some at e in
    let t = so_many_breaks frn (suc more) (suc more ∷ rest) fault read in
    (let short = t.0 in omega arith, t.1)

repeated_breaks : (frn size : ℕ) (bytes : List ℕ) (fault : ItemFault) → repeated_at frn size bytes ≡ Err fault → RepeatFails frn size bytes fault
repeated_breaks frn size [] fault e = sym (err_is {A = ℕ} (PastEnd frn) fault e)
repeated_breaks frn size (count ∷ groups) fault e =
    let t = so_many_breaks frn (1 + size * count) (count ∷ groups) fault e in
    (let short = t.0 in omega arith, t.1)

extended_fails : (frn size : ℕ) (bytes : List ℕ) (fault : ItemFault) → AllParts size size bytes × (fault ≡ PastEnd frn) → SimpleFails frn (Extended size) bytes fault
unfolding AllParts
extended_fails frn size bytes fault t = (t.0.0, t.0.1, parts_only size t.0.0 t.0.1 t.0.2, t.0.3, t.1)

pub simple_breaks : (frn : ℕ) (form : Form) (bytes : List ℕ) (fault : ItemFault) → IsTrue (has_length form) → simple_at frn form bytes ≡ Err fault → SimpleFails frn form bytes fault
simple_breaks frn Spare bytes fault sized e = sym (err_is {A = ℕ} (SpareItem frn) fault e)
simple_breaks frn (Fixed size) bytes fault sized e = so_many_breaks frn size bytes fault e
simple_breaks frn (Extended size) bytes fault sized e = extended_fails frn size bytes fault (extended_breaks frn size size 0 bytes fault (leb-true 1 size sized) (leb-true 1 size sized) e)
simple_breaks frn Explicit bytes fault sized e = explicit_breaks frn bytes fault e
simple_breaks frn (Repeat size) bytes fault sized e = repeated_breaks frn size bytes fault e
simple_breaks frn (Compound first count) bytes fault sized e = sym (err_is {A = ℕ} (SpareItem frn) fault e)
