-- Presence octets: what is read is a chain, and a chain is read.
use Rattle.std.proofs.Common.{◌≡◌, ℕ, zero, suc, ◌+◌, ◌-◌, ◌*◌, ◌/◌, ◌%◌, ◌^◌, ◌<◌, ◌≤◌, max, ◌⊎◌, inl, inr, Bool, true, false, cond, eqb, List, [], ◌∷◌, ◌++◌, length, get_or, take, Result, Ok, Err, Option, None, Some, refl, ap, sym, ◌∙◌, subst, arith}
use Rattle.std.proofs.lemmas.Bool.{ne_eqb, eqb-true, eqb-false, cases_eq, cases_lt}
use Rattle.std.specs.Option.{option_map}
use Rattle.std.proofs.Math.Nat.{zero-div}
use Rattle.std.proofs.lemmas.List.{get_or-take, get_or_append_left, get_or_past, length-take-le}
use Rattle.asterix_fields.specs.declared.fault.ItemFault.{ItemFault}
use Rattle.asterix_fields.specs.declared.fault.ItemFault.TheVariants.{LongFspec, PastEnd, SpareSubfield}
use Rattle.asterix_fields.specs.Spelling.{IsChain, IsPresence, is_named}
use Rattle.asterix_fields.specs.Faults.{unless, first_named, presence_at, fspec_at, primary_at, spare_subfield}

-- which way a test went
pub chosen : {A : Type 0} (b : Bool) (x y z : A) → cond b x y ≡ z → ((b ≡ true) × (x ≡ z)) ⊎ ((b ≡ false) × (y ≡ z))
chosen true x y z e = inl (refl, e)
chosen false x y z e = inr (refl, e)

-- a result of a reader
abbrev pub Read : Type 0 → Type 0
Read A = Result A ItemFault

pub ok_is : {A : Type 0} (x y : A) → (let r : Read A = Ok x in r ≡ Ok y) → x ≡ y
ok_is x y e = cc

pub not_ok : {A P : Type 0} (fault : ItemFault) (x : A) → (let r : Read A = Err fault in r ≡ Ok x) → P
not_ok fault x e = absurd (cc)

unless_ok : (spare : Option ItemFault) (next : Result ℕ ItemFault) (n : ℕ) → unless spare next ≡ Ok n → (spare ≡ None) × (next ≡ Ok n)
unless_ok None next n e = (refl, e)
unless_ok (Some fault) next n e = not_ok fault n e

chain_cons : (octet : ℕ) (octets : List ℕ) → octet % 2 ≡ 1 → IsChain octets → IsChain (octet ∷ octets)
chain_cons octet [] odd chain = absurd chain
chain_cons octet (next ∷ rest) odd chain = (odd, chain)

-- what was read from octet `index` on: so many octets, all but the last asking for more, none of them spare
pub record Takes (spare : ℕ → Option ItemFault) (index : ℕ) (bytes : List ℕ) (n : ℕ) : Type 0 where
  pub size : ℕ
  pub sum : n ≡ index + size
  pub inside : size ≤ length bytes
  pub chain : IsChain (take size bytes)
  pub few : n ≤ 5
  pub none : (i : ℕ) → index ≤ i → i < n → spare i ≡ None

pub more_none : (spare : ℕ → Option ItemFault) (index n : ℕ) → spare index ≡ None → ((i : ℕ) → index + 1 ≤ i → i < n → spare i ≡ None) → (i : ℕ) → index ≤ i → i < n → spare i ≡ None
more_none spare index n here after i low high =
    elim (cases_eq i index) [ inl same ↦ ap spare same ∙ here | inr apart ↦ after i (omega arith) high ]

pub presence_takes : (spare : ℕ → Option ItemFault) (past long : ItemFault) (index : ℕ) (bytes : List ℕ) (n : ℕ) → index ≤ 4 → presence_at spare past long index bytes ≡ Ok n → Takes spare index bytes n
unfolding presence_at
presence_takes spare past long index [] n few e = not_ok past n e
presence_takes spare past long index (octet ∷ rest) n few e =
    let after : Result ℕ ItemFault = presence_at spare past long (index + 1) rest in
    let next : Result ℕ ItemFault = cond (eqb (index + 1) 5) (Err long) after in
    let here = unless_ok (spare index) (cond (eqb (octet % 2) 0) (Ok (index + 1)) next) n e in
    elim (chosen (eqb (octet % 2) 0) (Ok (index + 1)) next (Ok n) here.1) [
      | inl w ↦
          let n_is : index + 1 ≡ n = ok_is (index + 1) n w.1 in
          let even : octet % 2 ≡ 0 = eqb-true _ _ w.0 in
          let only : (i : ℕ) → index ≤ i → i < n → spare i ≡ None =
          more_none spare index n here.0 (λ i low high. absurd (omega arith)) in
          record { size = 1; sum = sym n_is; inside = omega arith; chain = even; few = omega arith; none = only }
      | inr w ↦
          let odd : octet % 2 ≡ 1 = let ne = eqb-false _ _ w.0 in omega arith in
          elim (chosen (eqb (index + 1) 5) (Err long) after (Ok n) w.1) [
            | inl v ↦ not_ok long n v.1
            | inr v ↦
                let before : index + 1 ≡ 5 → ⊥ = eqb-false _ _ v.0 in
                let t = presence_takes spare past long (index + 1) rest n (omega arith) v.1 in
                record {
                  size = suc t.size;
                  sum = let s = t.sum in omega arith;
                  inside = let s = t.inside in omega arith;
                  chain = chain_cons octet (take t.size rest) odd t.chain;
                  few = t.few;
                  none = more_none spare index n here.0 t.none;
                }
          ]
    ]

pub presence_again : (spare : ℕ → Option ItemFault) (past long : ItemFault) (index : ℕ) (octets rest : List ℕ) → IsChain octets → index + length octets ≤ 5
    → ((i : ℕ) → index ≤ i → i < index + length octets → spare i ≡ None)
    → presence_at spare past long index (octets ++ rest) ≡ Ok (index + length octets)
unfolding presence_at
presence_again spare past long index [] rest chain few none = absurd chain
presence_again spare past long index (octet ∷ []) rest chain few none =
    let here : spare index ≡ None = none index (omega arith) (omega arith) in
    rw (here, chain) refl
presence_again spare past long index (octet ∷ next ∷ others) rest chain few none =
    let here : spare index ≡ None = none index (omega arith) (omega arith) in
    let before : eqb (index + 1) 5 ≡ false = ne_eqb (index + 1) 5 (omega arith) in
    let again : presence_at spare past long (index + 1) ((next ∷ others) ++ rest) ≡ Ok (index + 1 + length (next ∷ others)) =
    presence_again spare past long (index + 1) (next ∷ others) rest chain.1 (omega arith) (λ i low high. none i (omega arith) (omega arith)) in
    let sum : index + 1 + length (next ∷ others) ≡ index + length (octet ∷ next ∷ others) = omega arith in
    rw (here, chain.0, before) (again ∙ ap (λ (n : ℕ). Ok n) sum)

-- ---- numbers that octets name

place_below : (number size : ℕ) → 1 ≤ number → number ≤ 7 * size → (number - 1) / 7 < size
place_below number size low high = omega arith

pub named_take : (bytes : List ℕ) (size number : ℕ) → 1 ≤ number → number ≤ 7 * size → is_named (take size bytes) number ≡ is_named bytes number
named_take bytes size number low high =
    ap (λ octet. eqb (octet / 2 ^ (7 - (number - 1) % 7) % 2) 1) (get_or-take size bytes ((number - 1) / 7) 0 (place_below number size low high))

pub named_append : (octets rest : List ℕ) (number : ℕ) → 1 ≤ number → number ≤ 7 * length octets → is_named (octets ++ rest) number ≡ is_named octets number
named_append octets rest number low high =
    ap (λ octet. eqb (octet / 2 ^ (7 - (number - 1) % 7) % 2) 1) (get_or_append_left octets rest 0 ((number - 1) / 7) (place_below number (length octets) low high))

pub named_past : (octets : List ℕ) (number : ℕ) → 7 * length octets < number → is_named octets number ≡ false
named_past octets number past =
    let outside : length octets ≤ (number - 1) / 7 = omega arith in
    let nothing : get_or octets ((number - 1) / 7) 0 ≡ 0 = get_or_past octets ((number - 1) / 7) 0 outside in
    rw (nothing, zero-div (2 ^ (7 - (number - 1) % 7))) refl

pub first_named_none : (octets : List ℕ) (count number : ℕ) → first_named octets count number ≡ None → (i : ℕ) → number ≤ i → i < number + count → is_named octets i ≡ false
unfolding first_named
first_named_none octets zero number e i low high = absurd (omega arith)
first_named_none octets (suc count) number e i low high =
    elim (chosen (is_named octets number) (Some number) (first_named octets count (number + 1)) None e) [
      | inl w ↦ absurd (let n = w.1 in cc)
      | inr w ↦ elim (cases_eq i number) [
        | inl same ↦ ap (is_named octets) same ∙ w.0
        | inr apart ↦ first_named_none octets count (number + 1) w.1 i (omega arith) (omega arith)
      ]
    ]

pub first_named_again : (octets : List ℕ) (count number : ℕ) → ((i : ℕ) → number ≤ i → i < number + count → is_named octets i ≡ false) → first_named octets count number ≡ None
unfolding first_named
first_named_again octets zero number none = refl
first_named_again octets (suc count) number none =
    let here : is_named octets number ≡ false = none number (omega arith) (omega arith) in
    rw here (first_named_again octets count (number + 1) (λ i low high. none i (omega arith) (omega arith)))

pub first_named_found : (octets : List ℕ) (count number found : ℕ) → number ≤ found → found < number + count → is_named octets found ≡ true
    → ((i : ℕ) → number ≤ i → i < found → is_named octets i ≡ false) → first_named octets count number ≡ Some found
unfolding first_named
first_named_found octets zero number found low high named none = absurd (omega arith)
first_named_found octets (suc count) number found low high named none =
    elim (cases_eq number found) [
      | inl same ↦
          let here : is_named octets number ≡ true = ap (is_named octets) same ∙ named in
          rw here (ap (λ (n : ℕ). Some n) same)
      | inr apart ↦
          let here : is_named octets number ≡ false = none number (omega arith) (omega arith) in
          rw here (first_named_found octets count (number + 1) found (omega arith) (omega arith) named (λ i below above. none i (omega arith) above))
    ]

-- ---- the FSPEC

pub fspec_takes : (bytes : List ℕ) (n : ℕ) → fspec_at bytes ≡ Ok n → (n ≤ length bytes) × IsPresence (take n bytes)
fspec_takes bytes n e =
    let t = presence_takes (λ index. None) (PastEnd 0) LongFspec 0 bytes n (omega arith) e in
    let same : t.size ≡ n = let s = t.sum in omega arith in
    let inside : n ≤ length bytes = let s = t.inside in omega arith in
    let few : length (take n bytes) ≤ 5 = let s = t.few in omega (arith, length-take-le n bytes inside) in
    (inside, (subst (λ (size : ℕ). IsChain (take size bytes)) same t.chain, few))

pub fspec_again : (octets rest : List ℕ) → IsPresence octets → fspec_at (octets ++ rest) ≡ Ok (length octets)
fspec_again octets rest presence =
    presence_again (λ index. None) (PastEnd 0) LongFspec 0 octets rest presence.0 (let few = presence.1 in omega arith) (λ i low high. refl)
    ∙ ap (λ (n : ℕ). Ok n) (omega arith)

-- ---- the primary subfield

map_none : (f : ℕ → ItemFault) (found : Option ℕ) → option_map f found ≡ None → found ≡ None
map_none f None e = refl
map_none f (Some x) e = absurd (cc)

pub spare_none : (bytes : List ℕ) (rows index : ℕ) → spare_subfield bytes rows index ≡ None → (number : ℕ) → 7 * index + 1 ≤ number → number ≤ 7 * index + 7 → rows < number → is_named bytes number ≡ false
spare_none bytes rows index e number low high past =
    first_named_none bytes (7 * index + 8 - max (7 * index + 1) (rows + 1)) (max (7 * index + 1) (rows + 1)) e number (omega arith) (omega arith)

pub primary_takes : (frn rows : ℕ) (bytes : List ℕ) (n : ℕ) → primary_at frn rows bytes ≡ Ok n
    → (n ≤ length bytes) × IsPresence (take n bytes) × ((number : ℕ) → rows < number → is_named (take n bytes) number ≡ false)
primary_takes frn rows bytes n e =
    let t = presence_takes (λ index. option_map (SpareSubfield frn) (spare_subfield bytes rows index)) (PastEnd frn) (SpareSubfield frn 36) 0 bytes n (omega arith) e in
    let same : t.size ≡ n = let s = t.sum in omega arith in
    let inside : n ≤ length bytes = let s = t.inside in omega arith in
    let long : length (take n bytes) ≡ n = length-take-le n bytes inside in
    let few : length (take n bytes) ≤ 5 = let s = t.few in omega arith in
    let only : (number : ℕ) → rows < number → is_named (take n bytes) number ≡ false = λ number past.
    elim (cases_lt (7 * n) number) [
      | inl beyond ↦ named_past (take n bytes) number (omega arith)
      | inr within ↦
          let index : ℕ = (number - 1) / 7 in
          let none = map_none (SpareSubfield frn) (spare_subfield bytes rows index) (t.none index (omega arith) (omega arith)) in
          named_take bytes n number (omega arith) within ∙ spare_none bytes rows index none number (omega arith) (omega arith) past
    ] in
    (inside, (subst (λ (size : ℕ). IsChain (take size bytes)) same t.chain, few), only)

pub primary_again : (frn rows : ℕ) (octets rest : List ℕ) → IsPresence octets → ((number : ℕ) → rows < number → is_named octets number ≡ false)
    → primary_at frn rows (octets ++ rest) ≡ Ok (length octets)
primary_again frn rows octets rest presence only =
    let none : (i : ℕ) → i < length octets → spare_subfield (octets ++ rest) rows i ≡ None = λ i inside.
    first_named_again (octets ++ rest) (7 * i + 8 - max (7 * i + 1) (rows + 1)) (max (7 * i + 1) (rows + 1))
    (λ number low high. named_append octets rest number (omega arith) (omega arith) ∙ only number (omega arith)) in
    presence_again (λ index. option_map (SpareSubfield frn) (spare_subfield (octets ++ rest) rows index)) (PastEnd frn) (SpareSubfield frn 36) 0 octets rest presence.0 (let few = presence.1 in omega arith)
    (λ i low high. ap (option_map (SpareSubfield frn)) (none i (omega arith)))
    ∙ ap (λ (n : ℕ). Ok n) (omega arith)
