-- What a packer keeps, as messages come.
use Rattle.std.proofs.Common.{◌≡◌, ℕ, ◌+◌, ◌-◌, ◌≤◌, ◌<◌, ◌/◌, ◌%◌, ◌⊎◌, inl, inr, List, [], ◌∷◌, ◌++◌, length, take, drop, refl, sym, ◌∙◌, ap, subst, append_assoc, append-nil, arith, length-append, length-drop, true, false, set}
use Rattle.std.proofs.lemmas.Bool.{le-leb, lt-leb}
use Rattle.std.proofs.lemmas.List.{take-append-drop, length-take, set-append_right}
use Rattle.std.proofs.Math.Seq.{take-append_seam, drop-append_seam, drop-append-add}
use Rattle.asterix_fields.specs.Numbers.{octets}
use Rattle.asterix_fields.specs.declared.sizes.TheConstants.{HEADER_LENGTH}
use Rattle.cat004_write.specs.declared.message.TheConstants.{MESSAGE_ROOM}
use Rattle.cat004_write.specs.declared.packer.TheConstants.{CATEGORY, PACKED_ROOM}
use Rattle.cat004_write.specs.Blocks.{Packing, Packs, pack, pack_from, block, fits, last_block}
use Rattle.cat004_write.specs.LastBlock.{HasRoom, HasSpare, IsWhole, extended, packing_of}

-- the blocks of all messages
pub Packs-all : (p : Packing) (ms : List (List ℕ)) → Packs p ms → p.closed ++ last_block p.contents ≡ pack ms
Packs-all p ms h = sym (h []) ∙ ap pack (append-nil ms)

-- a message that fits joins the contents
pub Packs-joined : (p : Packing) (m : List ℕ) (ms : List (List ℕ)) → HEADER_LENGTH + length p.contents + length m ≤ PACKED_ROOM → Packs p ms → Packs (record { closed = p.closed; contents = p.contents ++ m }) (ms ++ m ∷ [])
Packs-joined p m ms room h rest =
    let fitting : fits p.contents m ≡ true = le-leb (HEADER_LENGTH + length p.contents + length m) PACKED_ROOM room in
    ap pack (append_assoc ms (m ∷ []) rest) ∙ h (m ∷ rest) ∙ rw fitting refl

-- another one begins a block
pub Packs-begun : (p : Packing) (m : List ℕ) (ms : List (List ℕ)) → PACKED_ROOM < HEADER_LENGTH + length p.contents + length m → Packs p ms → Packs (record { closed = p.closed ++ block p.contents; contents = m }) (ms ++ m ∷ [])
Packs-begun p m ms full h rest =
    let full' : fits p.contents m ≡ false = lt-leb (HEADER_LENGTH + length p.contents + length m) PACKED_ROOM full in
    ap pack (append_assoc ms (m ∷ []) rest) ∙ h (m ∷ rest) ∙ rw full' (sym (append_assoc p.closed (block p.contents) (pack_from m rest)))

-- octets before a last block
pub packing_of-block : (front contents : List ℕ) (offset : ℕ) → offset ≡ length front → packing_of (front ++ block contents) offset ≡ record { closed = front; contents = contents }
packing_of-block front contents offset e =
    let closed : take offset (front ++ block contents) ≡ front = rw e (take-append_seam front (block contents)) in
    let rest : drop (offset + HEADER_LENGTH) (front ++ block contents) ≡ contents = rw e (drop-append-add front (block contents) HEADER_LENGTH) in
    cc

pub last_block-some : (contents : List ℕ) → 0 < length contents → last_block contents ≡ block contents
last_block-some [] some = absurd (omega arith)
last_block-some (octet ∷ contents) some = refl

pub IsWhole-block : (front contents : List ℕ) (offset : ℕ) → offset ≡ length front → 0 < length contents → HEADER_LENGTH + length contents ≤ PACKED_ROOM → IsWhole (front ++ block contents) offset
IsWhole-block front contents offset e some room =
    let rest : drop (offset + HEADER_LENGTH) (front ++ block contents) ≡ contents = rw e (drop-append-add front (block contents) HEADER_LENGTH) in
    let whole : drop offset (front ++ block contents) ≡ block contents = rw e (drop-append_seam front (block contents)) in
    record {
      begins = omega (arith, length-append front (block contents));
      room = omega (arith, length-append front (block contents));
      ends = whole ∙ sym (last_block-some contents some) ∙ ap last_block (sym rest);
    }

-- a last block that has octets has contents
contents_of-some : (octets contents : List ℕ) → octets ≡ last_block contents → 0 < length octets → (0 < length contents) × (octets ≡ block contents)
contents_of-some octets [] e some = absurd (omega (arith, ap length e))
contents_of-some octets (octet ∷ contents) e some = (omega arith, e)

pub contents_of : (octets : List ℕ) (offset : ℕ) → IsWhole octets offset → offset < length octets → (0 < length (drop (offset + HEADER_LENGTH) octets)) × (drop offset octets ≡ block (drop (offset + HEADER_LENGTH) octets))
contents_of octets offset h some =
    contents_of-some (drop offset octets) (drop (offset + HEADER_LENGTH) octets) h.ends (omega (arith, length-drop offset octets))

-- where the octets from the offset on leave room, the last block has it
pub room_of : (octets message : List ℕ) (offset : ℕ) → IsWhole octets offset → offset < length octets → length octets - offset + length message ≤ PACKED_ROOM → HasRoom octets offset message
room_of octets message offset h some room =
    let contents = contents_of octets offset h some in
    record {
      begins = omega (arith, contents.0, length-drop (offset + HEADER_LENGTH) octets);
      block = contents.1;
      room = omega arith;
    }

-- the octets are the closed blocks and the last one
pub octets-parts : (octets : List ℕ) (offset : ℕ) → IsWhole octets offset → take offset octets ++ last_block (drop (offset + HEADER_LENGTH) octets) ≡ octets
octets-parts octets offset h = ap (λ z. take offset octets ++ z) (sym h.ends) ∙ take-append-drop offset octets

nothing_of : (octets : List ℕ) → length octets ≡ 0 → octets ≡ []
nothing_of [] e = refl
nothing_of (octet ∷ rest) e = absurd (omega arith)

-- the packer that begins a block, behind nothing or behind a block without room
begun_first : (old m : List ℕ) (last : ℕ) (ms : List (List ℕ)) → IsWhole old last → length old - last ≡ 0 → length m ≤ MESSAGE_ROOM → Packs (packing_of old last) ms → Packs (record { closed = old; contents = m }) (ms ++ m ∷ [])
begun_first old m last ms whole empty small h =
    let P : Packing → Type 0 = λ p. Packs p (ms ++ m ∷ []) in
    let contents : List ℕ = drop (last + HEADER_LENGTH) old in
    let begins : last ≤ length old = whole.begins in
    let none : contents ≡ [] = nothing_of contents (omega (arith, length-drop (last + HEADER_LENGTH) old)) in
    let front : take last old ≡ old = sym (append-nil (take last old)) ∙ subst (λ (z : List ℕ). take last old ++ last_block z ≡ old) none (octets-parts old last whole) in
    let joined : Packing = record { closed = take last old; contents = contents ++ m } in
    let alone : Packing = record { closed = old; contents = m } in
    let same : joined ≡ alone = cc in
    let room : HEADER_LENGTH + length contents + length m ≤ PACKED_ROOM = omega (arith, ap length none) in
    subst P same (Packs-joined (packing_of old last) m ms room h)

begun_next : (old m : List ℕ) (last : ℕ) (ms : List (List ℕ)) → IsWhole old last → PACKED_ROOM < length old - last + length m → length m ≤ MESSAGE_ROOM → Packs (packing_of old last) ms → Packs (record { closed = old; contents = m }) (ms ++ m ∷ [])
begun_next old m last ms whole full small h =
    let P : Packing → Type 0 = λ p. Packs p (ms ++ m ∷ []) in
    let contents : List ℕ = drop (last + HEADER_LENGTH) old in
    let some : last < length old = omega arith in
    let is : drop last old ≡ block contents = (contents_of old last whole some).1 in
    let front : take last old ++ block contents ≡ old = ap (λ z. take last old ++ z) (sym is) ∙ take-append-drop last old in
    let long : PACKED_ROOM < HEADER_LENGTH + length contents + length m = omega (arith, length-drop last old, ap length is) in
    subst (λ (z : List ℕ). P (record { closed = z; contents = m })) front (Packs-begun (packing_of old last) m ms long h)

pub Packs-block_begun : (old new m : List ℕ) (last offset : ℕ) (ms : List (List ℕ)) → IsWhole old last → (length old - last ≡ 0) ⊎ (PACKED_ROOM < length old - last + length m) → length m ≤ MESSAGE_ROOM → offset ≡ length old → new ≡ old ++ block m → Packs (packing_of old last) ms → Packs (packing_of new offset) (ms ++ m ∷ [])
Packs-block_begun old new m last offset ms whole full small e now h =
    let P : Packing → Type 0 = λ p. Packs p (ms ++ m ∷ []) in
    let held : P (record { closed = old; contents = m }) =
    elim full [ inl empty ↦ begun_first old m last ms whole empty small h | inr long ↦ begun_next old m last ms whole long small h ] in
    let same : packing_of new offset ≡ record { closed = old; contents = m } =
    ap (λ z. packing_of z offset) now ∙ packing_of-block old m offset e in
    subst P (sym same) held

-- the packer that extends its last block
pub Packs-block_joined : (old new m : List ℕ) (last : ℕ) (ms : List (List ℕ)) → IsWhole old last → last < length old → length old - last + length m ≤ PACKED_ROOM → new ≡ extended old last m → Packs (packing_of old last) ms → Packs (packing_of new last) (ms ++ m ∷ [])
Packs-block_joined old new m last ms whole some room now h =
    let P : Packing → Type 0 = λ p. Packs p (ms ++ m ∷ []) in
    let contents : List ℕ = drop (last + HEADER_LENGTH) old in
    let is : drop last old ≡ block contents = (contents_of old last whole some).1 in
    let fitting : HEADER_LENGTH + length contents + length m ≤ PACKED_ROOM = omega (arith, length-drop last old, ap length is) in
    let offset : last ≡ length (take last old) = omega (arith, length-take last old) in
    let same : packing_of new last ≡ record { closed = take last old; contents = contents ++ m } =
    ap (λ z. packing_of z last) now ∙ packing_of-block (take last old) (contents ++ m) last offset in
    subst P (sym same) (Packs-joined (packing_of old last) m ms fitting h)

pub IsWhole-begun : (old new m : List ℕ) (offset : ℕ) → offset ≡ length old → 0 < length m → length m ≤ MESSAGE_ROOM → new ≡ old ++ block m → IsWhole new offset
IsWhole-begun old new m offset e some small now =
    let P : List ℕ → Type 0 = λ z. IsWhole z offset in
    subst P (sym now) (IsWhole-block old m offset e some (omega arith))

pub IsWhole-joined : (old new m : List ℕ) (last : ℕ) → IsWhole old last → last < length old → length old - last + length m ≤ PACKED_ROOM → new ≡ extended old last m → IsWhole new last
IsWhole-joined old new m last whole some room now =
    let P : List ℕ → Type 0 = λ z. IsWhole z last in
    let contents : List ℕ = drop (last + HEADER_LENGTH) old in
    let held : 0 < length contents = (contents_of old last whole some).0 in
    let is : drop last old ≡ block contents = (contents_of old last whole some).1 in
    let offset : last ≡ length (take last old) = omega (arith, length-take last old) in
    let more : 0 < length (contents ++ m) = omega (arith, length-append contents m) in
    let fitting : HEADER_LENGTH + length (contents ++ m) ≤ PACKED_ROOM = omega (arith, length-append contents m, length-drop last old, ap length is) in
    subst P (sym now) (IsWhole-block (take last old) (contents ++ m) last offset more fitting)

-- a message leaves the capacity for one fewer
pub spare_left : (before capacity after larger spare left : ℕ) → HasSpare before capacity spare → capacity ≤ larger → after ≤ larger → after ≤ before + (HEADER_LENGTH + MESSAGE_ROOM) → left ≡ spare - 1 → HasSpare after larger left
spare_left before capacity after larger spare left has more within one counted = omega arith

-- the octets of a length behind the category
pub set_length : (front rest : List ℕ) (offset category x y high low : ℕ) → offset ≡ length front → set (set (front ++ category ∷ x ∷ y ∷ rest) (offset + 1) high) (offset + 2) low ≡ front ++ category ∷ high ∷ low ∷ rest
set_length front rest offset category x y high low e =
    let one : offset + 1 - offset ≡ 1 = omega arith in
    let two : offset + 2 - offset ≡ 2 = omega arith in
    let first : set (front ++ category ∷ x ∷ y ∷ rest) (offset + 1) high ≡ front ++ category ∷ high ∷ y ∷ rest =
    set-append_right front (category ∷ x ∷ y ∷ rest) offset (offset + 1) high (sym e) (omega arith) ∙ rw one refl in
    ap (λ z. set z (offset + 2) low) first ∙ set-append_right front (category ∷ high ∷ y ∷ rest) offset (offset + 2) low (sym e) (omega arith) ∙ rw two refl

-- the last block, as octets are put behind it and its length is written
pub block_extended : (old new m : List ℕ) (offset count high low : ℕ) → HasRoom old offset m → new ≡ old ++ m → count ≡ length new - offset → high ≡ count / 256 % 256 → low ≡ count / 1 % 256 → set (set new (offset + 1) high) (offset + 2) low ≡ extended old offset m
block_extended old new m offset count high low has now counted e f =
    let contents : List ℕ = drop (offset + HEADER_LENGTH) old in
    let front : List ℕ = take offset old in
    let length_then : ℕ = HEADER_LENGTH + length contents in
    let begins : offset ≡ length front = omega (arith, length-take offset old, has.begins) in
    let parts : new ≡ front ++ (block contents ++ m) =
    now ∙ ap (λ z. z ++ m) (sym (take-append-drop offset old) ∙ ap (λ z. front ++ z) has.block) ∙ append_assoc front (block contents) m in
    let counted' : count ≡ HEADER_LENGTH + length (contents ++ m) =
    omega (arith, ap length now, length-append old m, length-append contents m, length-drop (offset + HEADER_LENGTH) old, has.begins) in
    let e' : high ≡ (HEADER_LENGTH + length (contents ++ m)) / 256 % 256 = e ∙ ap (λ n. n / 256 % 256) counted' in
    let f' : low ≡ (HEADER_LENGTH + length (contents ++ m)) / 1 % 256 = f ∙ ap (λ n. n / 1 % 256) counted' in
    let written : set (set (front ++ (block contents ++ m)) (offset + 1) high) (offset + 2) low ≡ front ++ CATEGORY ∷ high ∷ low ∷ (contents ++ m) =
    set_length front (contents ++ m) offset CATEGORY (length_then / 256 % 256) (length_then / 1 % 256) high low begins in
    ap (λ z. set (set z (offset + 1) high) (offset + 2) low) parts ∙ written ∙ (cc)
