-- Items that aren't compound: what is read is spelled, and what is spelled is read.
use Rattle.std.proofs.Common.{◌≡◌, ℕ, zero, suc, ◌+◌, ◌-◌, ◌*◌, ◌%◌, ◌≤◌, inl, inr, true, false, cond, eqb, ltb, IsTrue, List, [], ◌∷◌, ◌++◌, length, get_or, take, Ok, Err, refl, ap, sym, ◌∙◌, subst, arith, eq-eqb, length-append, append_assoc}
use Rattle.std.proofs.lemmas.Bool.{ne_eqb, eqb-true, eqb-false, ltb-false, le-ltb, leb-true}
use Rattle.std.proofs.Math.Dec.{eqb-suc-zero}
use Rattle.std.proofs.lemmas.List.{length-take-le, append-nil}
use Rattle.asterix_fields.specs.declared.tables.Form.{Form}
use Rattle.asterix_fields.specs.declared.tables.Form.TheVariants.{Spare, Fixed, Extended, Explicit, Repeat, Compound}
use Rattle.asterix_fields.specs.declared.fault.ItemFault.TheVariants.{PastEnd, SpareItem, ZeroLength}
use Rattle.asterix_fields.specs.Tables.{has_length}
use Rattle.asterix_fields.specs.Spelling.{joined, AreParts, IsExplicit, IsRepeated, IsSimple}
use Rattle.asterix_fields.specs.Faults.{so_many, extended_at, explicit_at, repeated_at, simple_at}
use Rattle.asterix_fields.proofs.PresenceLaws.{Read, chosen, ok_is, not_ok}

so_many_takes : (frn size : ℕ) (bytes : List ℕ) (n : ℕ) → so_many frn size bytes ≡ Ok n → (n ≡ size) × (size ≤ length bytes)
so_many_takes frn size bytes n e =
    elim (chosen (ltb (length bytes) size) (Err (PastEnd frn)) (Ok size) (Ok n) e) [
      | inl w ↦ not_ok (PastEnd frn) n w.1
      | inr w ↦ (sym (ok_is size n w.1), ltb-false _ _ w.0)
    ]

so_many_again : (frn size : ℕ) (bytes : List ℕ) → size ≤ length bytes → so_many frn size bytes ≡ Ok size
so_many_again frn size bytes inside =
    let fits : ltb (length bytes) size ≡ false = le-ltb _ _ inside in
    rw fits refl

-- ---- extended

-- parts of which the first has only so many octets
abbrev AreLast : ℕ → ℕ → List (List ℕ) → Type 0
AreLast size left [] = ⊥
AreLast size left (part ∷ []) = (length part ≡ left) × (get_or part (left - 1) 0 % 2 ≡ 0)
AreLast size left (part ∷ next ∷ rest) = (length part ≡ left) × (get_or part (left - 1) 0 % 2 ≡ 1) × AreParts size (next ∷ rest)

all_parts : (size : ℕ) (parts : List (List ℕ)) → AreLast size size parts → AreParts size parts
all_parts size [] h = h
all_parts size (part ∷ []) h = h
all_parts size (part ∷ next ∷ rest) h = h

-- one octet before parts
grown : ℕ → List (List ℕ) → List (List ℕ)
grown octet [] = []
grown octet (part ∷ parts) = (octet ∷ part) ∷ parts

joined-grown : (size left octet : ℕ) (parts : List (List ℕ)) → AreLast size left parts → joined (grown octet parts) ≡ octet ∷ joined parts
unfolding grown
joined-grown size left octet [] h = absurd h
joined-grown size left octet (part ∷ parts) h = refl

last_grown : (octet left : ℕ) (part : List ℕ) → 1 ≤ left → get_or (octet ∷ part) (left + 1 - 1) 0 ≡ get_or part (left - 1) 0
last_grown octet left part low =
    let k : left + 1 - 1 ≡ suc (left - 1) = omega arith in
    rw k refl

AreLast-grown : (size left octet : ℕ) (parts : List (List ℕ)) → 1 ≤ left → AreLast size left parts → AreLast size (left + 1) (grown octet parts)
unfolding grown
AreLast-grown size left octet [] low h = absurd h
AreLast-grown size left octet (part ∷ []) low h =
    let long = h.0 in
    (omega arith, ap (λ last. last % 2) (last_grown octet left part low) ∙ h.1)
AreLast-grown size left octet (part ∷ next ∷ rest) low h =
    let long = h.0 in
    (omega arith, ap (λ last. last % 2) (last_grown octet left part low) ∙ h.1, h.2)

odd_before : (size octet : ℕ) (parts : List (List ℕ)) → octet % 2 ≡ 1 → AreLast size size parts → AreLast size 1 ((octet ∷ []) ∷ parts)
odd_before size octet [] odd h = absurd h
odd_before size octet (part ∷ parts) odd h = (refl, odd, all_parts size (part ∷ parts) h)

-- what was read of an extended item: so many octets from `index` on, which are the rest of its parts
record Parts (size left index : ℕ) (bytes : List ℕ) (n : ℕ) : Type 0 where
  taken : ℕ
  sum : n ≡ index + taken
  inside : taken ≤ length bytes
  parts : List (List ℕ)
  last : AreLast size left parts
  whole : take taken bytes ≡ joined parts

extended_takes : (frn size left index : ℕ) (bytes : List ℕ) (n : ℕ) → 1 ≤ left → 1 ≤ size → extended_at frn size left index bytes ≡ Ok n → Parts size left index bytes n
unfolding extended_at
extended_takes frn size left index [] n low least e = not_ok (PastEnd frn) n e
extended_takes frn size left index (octet ∷ rest) n low least e =
    let after : Read ℕ = extended_at frn size size (index + 1) rest in
    let within : Read ℕ = extended_at frn size (left - 1) (index + 1) rest in
    let ending : Read ℕ = cond (eqb (octet % 2) 0) (Ok (index + 1)) after in
    elim (chosen (eqb left 1) ending within (Ok n) e) [
      | inl w ↦
          let one : left ≡ 1 = eqb-true _ _ w.0 in
          elim (chosen (eqb (octet % 2) 0) (Ok (index + 1)) after (Ok n) w.1) [
            | inl v ↦
                let even : octet % 2 ≡ 0 = eqb-true _ _ v.0 in
                let n_is : index + 1 ≡ n = ok_is (index + 1) n v.1 in
                subst (λ (k : ℕ). Parts size k index (octet ∷ rest) n) (sym one)
                (record { taken = 1; sum = sym n_is; inside = omega arith; parts = (octet ∷ []) ∷ []; last = (refl, even); whole = refl })
            | inr v ↦
                let odd : octet % 2 ≡ 1 = let ne = eqb-false _ _ v.0 in omega arith in
                let t = extended_takes frn size size (index + 1) rest n least least v.1 in
                subst (λ (k : ℕ). Parts size k index (octet ∷ rest) n) (sym one)
                (record {
                  taken = suc t.taken;
                  sum = let s = t.sum in omega arith;
                  inside = let s = t.inside in omega arith;
                  parts = (octet ∷ []) ∷ t.parts;
                  last = odd_before size octet t.parts odd t.last;
                  whole = ap (λ (text : List ℕ). octet ∷ text) t.whole;
                })
          ]
      | inr w ↦
          let more : 1 ≤ left - 1 = let ne = eqb-false _ _ w.0 in omega arith in
          let back : left - 1 + 1 ≡ left = omega arith in
          let t = extended_takes frn size (left - 1) (index + 1) rest n more least w.1 in
          record {
            taken = suc t.taken;
            sum = let s = t.sum in omega arith;
            inside = let s = t.inside in omega arith;
            parts = grown octet t.parts;
            last = subst (λ (k : ℕ). AreLast size k (grown octet t.parts)) back (AreLast-grown size (left - 1) octet t.parts more t.last);
            whole = ap (λ (text : List ℕ). octet ∷ text) t.whole ∙ sym (joined-grown size (left - 1) octet t.parts t.last);
          }
    ]

behind_head : (octet : ℕ) (octets : List ℕ) (i : ℕ) → 1 ≤ i → get_or (octet ∷ octets) i 0 ≡ get_or octets (i - 1) 0
behind_head octet octets zero low = absurd (omega arith)
behind_head octet octets (suc i) low = ap (λ (k : ℕ). get_or octets k 0) (omega arith)

-- one whole part is read over
pub extended_over : (frn size left index : ℕ) (part tail : List ℕ) → 1 ≤ left → length part ≡ left
    → extended_at frn size left index (part ++ tail)
    ≡ cond (eqb (get_or part (left - 1) 0 % 2) 0) (Ok (index + left)) (extended_at frn size size (index + left) tail)
unfolding extended_at
extended_over frn size left index [] tail low long = absurd (omega arith)
extended_over frn size left index (octet ∷ []) tail low long =
    let one : left ≡ 1 = omega arith in
    rw one refl
extended_over frn size left index (octet ∷ next ∷ others) tail low long =
    let apart : eqb left 1 ≡ false = ne_eqb left 1 (omega arith) in
    let rest : length (next ∷ others) ≡ left - 1 = omega arith in
    let again = extended_over frn size (left - 1) (index + 1) (next ∷ others) tail (omega arith) rest in
    let sum : index + 1 + (left - 1) ≡ index + left = omega arith in
    let last : get_or (octet ∷ next ∷ others) (left - 1) 0 ≡ get_or (next ∷ others) (left - 1 - 1) 0 = behind_head octet (next ∷ others) (left - 1) (omega arith) in
    rw (apart, last, ← sum) again

extended_again : (frn size index : ℕ) (parts : List (List ℕ)) (rest : List ℕ) → 1 ≤ size → AreParts size parts
    → extended_at frn size size index (joined parts ++ rest) ≡ Ok (index + length (joined parts))
extended_again frn size index [] rest low h = absurd h
extended_again frn size index (part ∷ []) rest low h =
    let long : length part ≡ size = h.0 in
    let over = extended_over frn size size index part rest low long in
    let even : eqb (get_or part (size - 1) 0 % 2) 0 ≡ true = eq-eqb _ _ h.1 in
    let whole : length (part ++ []) ≡ size = ap length (append-nil part) ∙ long in
    ap (λ (text : List ℕ). extended_at frn size size index (text ++ rest)) (append-nil part) ∙ over ∙ rw (even, whole) refl
extended_again frn size index (part ∷ next ∷ others) rest low h =
    let long : length part ≡ size = h.0 in
    let tail : List ℕ = joined (next ∷ others) in
    let over = extended_over frn size size index part (tail ++ rest) low long in
    let odd : eqb (get_or part (size - 1) 0 % 2) 0 ≡ false = let one = h.1 in ne_eqb _ _ (omega arith) in
    let again : extended_at frn size size (index + size) (tail ++ rest) ≡ Ok (index + size + length tail) = extended_again frn size (index + size) (next ∷ others) rest low h.2 in
    let sum : index + size + length tail ≡ index + length (part ++ tail) = omega (arith, length-append part tail) in
    ap (extended_at frn size size index) (append_assoc part tail rest) ∙ over ∙ rw odd (again ∙ ap (λ (n : ℕ). Ok n) sum)

-- ---- explicit and repeated

explicit_takes : (frn : ℕ) (bytes : List ℕ) (n : ℕ) → explicit_at frn bytes ≡ Ok n → (n ≤ length bytes) × IsExplicit (take n bytes)
explicit_takes frn [] n e = not_ok (PastEnd frn) n e
explicit_takes frn (zero ∷ rest) n e = not_ok (ZeroLength frn) n e
explicit_takes frn (suc k ∷ rest) n e =
    let some : eqb (suc k) 0 ≡ false = eqb-suc-zero k in
    let read : so_many frn (suc k) (suc k ∷ rest) ≡ Ok n = rw some at e in
    let t = so_many_takes frn (suc k) (suc k ∷ rest) n read in
    let inside : suc k ≤ length (suc k ∷ rest) = t.1 in
    let long : length (take k rest) ≡ k = length-take-le k rest (omega arith) in
    subst (λ (m : ℕ). (m ≤ length (suc k ∷ rest)) × IsExplicit (take m (suc k ∷ rest))) (sym t.0) (inside, (omega arith, ap suc (sym long)))

explicit_again : (frn : ℕ) (text rest : List ℕ) → IsExplicit text → explicit_at frn (text ++ rest) ≡ Ok (length text)
explicit_again frn [] rest h = absurd h
explicit_again frn (size ∷ others) rest h =
    let some : eqb size 0 ≡ false = let low = h.0 in ne_eqb size 0 (omega arith) in
    let long : size ≡ length (size ∷ others) = h.1 in
    let read : so_many frn size ((size ∷ others) ++ rest) ≡ Ok size = so_many_again frn size ((size ∷ others) ++ rest) (omega (arith, length-append others rest)) in
    rw some (read ∙ ap (λ (n : ℕ). Ok n) long)

repeated_takes : (frn size : ℕ) (bytes : List ℕ) (n : ℕ) → repeated_at frn size bytes ≡ Ok n → (n ≤ length bytes) × IsRepeated size (take n bytes)
repeated_takes frn size [] n e = not_ok (PastEnd frn) n e
repeated_takes frn size (count ∷ groups) n e =
    let t = so_many_takes frn (1 + size * count) (count ∷ groups) n e in
    let n_is : n ≡ suc (size * count) = let s = t.0 in omega arith in
    let inside : suc (size * count) ≤ length (count ∷ groups) = let s = t.1 in omega arith in
    subst (λ (m : ℕ). (m ≤ length (count ∷ groups)) × IsRepeated size (take m (count ∷ groups))) (sym n_is)
    (inside, length-take-le (size * count) groups (omega arith))

repeated_again : (frn size : ℕ) (text rest : List ℕ) → IsRepeated size text → repeated_at frn size (text ++ rest) ≡ Ok (length text)
repeated_again frn size [] rest h = absurd h
repeated_again frn size (count ∷ groups) rest h =
    let long : 1 + size * count ≡ length (count ∷ groups) = omega arith in
    so_many_again frn (1 + size * count) ((count ∷ groups) ++ rest) (omega (arith, length-append groups rest)) ∙ ap (λ (n : ℕ). Ok n) long

-- ---- each form

pub simple_takes : (frn : ℕ) (form : Form) (bytes : List ℕ) (n : ℕ) → IsTrue (has_length form) → simple_at frn form bytes ≡ Ok n → (n ≤ length bytes) × IsSimple form (take n bytes)
simple_takes frn Spare bytes n sized e = not_ok (SpareItem frn) n e
simple_takes frn (Fixed size) bytes n sized e =
    let t = so_many_takes frn size bytes n e in
    let inside : n ≤ length bytes = let s = t.0 in let i = t.1 in omega arith in
    (inside, length-take-le n bytes inside ∙ t.0)
simple_takes frn (Extended size) bytes n sized e =
    let low : 1 ≤ size = leb-true 1 size sized in
    let t = extended_takes frn size size 0 bytes n low low e in
    let same : t.taken ≡ n = let s = t.sum in omega arith in
    (let i = t.inside in omega arith, (t.parts, all_parts size t.parts t.last, ap (λ (m : ℕ). take m bytes) (sym same) ∙ t.whole))
simple_takes frn Explicit bytes n sized e = explicit_takes frn bytes n e
simple_takes frn (Repeat size) bytes n sized e = repeated_takes frn size bytes n e
simple_takes frn (Compound first count) bytes n sized e = not_ok (SpareItem frn) n e

pub simple_again : (frn : ℕ) (form : Form) (text rest : List ℕ) → IsTrue (has_length form) → IsSimple form text → simple_at frn form (text ++ rest) ≡ Ok (length text)
simple_again frn Spare text rest sized h = absurd h
simple_again frn (Fixed size) text rest sized h =
    so_many_again frn size (text ++ rest) (omega (arith, length-append text rest)) ∙ ap (λ (n : ℕ). Ok n) (sym h)
simple_again frn (Extended size) text rest sized h =
    let low : 1 ≤ size = leb-true 1 size sized in
    let long : length text ≡ length (joined h.0) = ap length h.2 in
    ap (λ (t : List ℕ). extended_at frn size size 0 (t ++ rest)) h.2 ∙ extended_again frn size 0 h.0 rest low h.1
    ∙ ap (λ (n : ℕ). Ok n) (omega arith)
simple_again frn Explicit text rest sized h = explicit_again frn text rest h
simple_again frn (Repeat size) text rest sized h = repeated_again frn size text rest h
simple_again frn (Compound first count) text rest sized h = absurd h
