-- The packing of messages is blocks of groups of them.
use Rattle.std.proofs.Common.{◌≡◌, ℕ, ◌+◌, ◌≤◌, ◌<◌, List, [], ◌∷◌, ◌++◌, length, Bool, true, false, All, refl, sym, ◌∙◌, ap, subst, append_assoc, append-nil, arith, length-append}
use Rattle.std.specs.List.{concat, flat_map}
use Rattle.std.proofs.lemmas.Bool.{leb-true, leb-false, le-leb}
use Rattle.std.proofs.lemmas.List.Elements.{All-nil, All-cons, All-head, All-tail}
use Rattle.asterix_fields.specs.declared.sizes.TheConstants.{HEADER_LENGTH}
use Rattle.cat004_write.specs.declared.packer.TheConstants.{PACKED_ROOM}
use Rattle.cat004_write.specs.Blocks.{pack, pack_from, block, fits}
use Rattle.cat004_write.proofs.Packings.{last_block-some}
use Rattle.cat004_write.specs.Grouping.{FitsBlock, IsInRoom, block_of, IsFull, AreFull, IsPacked}

concat-append : (xs ys : List (List ℕ)) → concat (xs ++ ys) ≡ concat xs ++ concat ys
concat-append [] ys = refl
concat-append (x ∷ xs) ys = ap (λ z. x ++ z) (concat-append xs ys) ∙ sym (append_assoc x (concat xs) (concat ys))

-- how the packing goes on behind a group: what more the group takes, and the groups after it
record Continues (group messages : List (List ℕ)) (octets : List ℕ) : Type 0 where
  first : List (List ℕ)
  others : List (List (List ℕ))
  each : first ++ flat_map (λ (g : List (List ℕ)). g) others ≡ messages
  blocks : octets ≡ block_of (group ++ first) ++ flat_map block_of others
  room : length (block_of (group ++ first)) ≤ PACKED_ROOM
  rooms : All IsInRoom others
  full : IsFull (group ++ first) others
  fulls : AreFull others

continues : (group messages : List (List ℕ)) (contents : List ℕ) → contents ≡ concat group → 0 < length contents → HEADER_LENGTH + length contents ≤ PACKED_ROOM → All FitsBlock messages → Continues group messages (pack_from contents messages)
continues group [] contents is some room fit =
    let whole : contents ≡ concat (group ++ []) = is ∙ ap concat (sym (append-nil group)) in
    record {
      first = [];
      others = [];
      each = refl;
      blocks = last_block-some contents some ∙ ap block whole ∙ sym (append-nil (block_of (group ++ [])));
      room = omega (arith, ap length whole);
      rooms = All-nil IsInRoom;
      full = tt;
      fulls = tt;
    }
continues group (m ∷ messages) contents is some room fit =
    elim (fits contents m) as (λ (b : Bool). fits contents m ≡ b → Continues group (m ∷ messages) (pack_from contents (m ∷ messages))) [
      | true ↦ λ e.
          let joined : contents ++ m ≡ concat (group ++ m ∷ []) =
          ap (λ z. z ++ m) is ∙ ap (λ z. concat group ++ z) (sym (append-nil m)) ∙ sym (concat-append group (m ∷ [])) in
          let fitting : HEADER_LENGTH + length contents + length m ≤ PACKED_ROOM = leb-true (HEADER_LENGTH + length contents + length m) PACKED_ROOM e in
          let r : Continues (group ++ m ∷ []) messages (pack_from (contents ++ m) messages) =
          continues (group ++ m ∷ []) messages (contents ++ m) joined (omega (arith, length-append contents m)) (omega (arith, length-append contents m)) (All-tail FitsBlock m messages fit) in
          let regrouped : (group ++ m ∷ []) ++ r.first ≡ group ++ m ∷ r.first = append_assoc group (m ∷ []) r.first in
          record {
            first = m ∷ r.first;
            others = r.others;
            each = ap (λ z. m ∷ z) r.each;
            blocks = rw e (r.blocks ∙ ap (λ z. block_of z ++ flat_map block_of r.others) regrouped);
            room = subst (λ (z : List (List ℕ)). length (block_of z) ≤ PACKED_ROOM) regrouped r.room;
            rooms = r.rooms;
            full = subst (λ (z : List (List ℕ)). IsFull z r.others) regrouped r.full;
            fulls = r.fulls;
          }
      | false ↦ λ e.
          let whole : contents ≡ concat (group ++ []) = is ∙ ap concat (sym (append-nil group)) in
          let behind : contents ++ m ≡ concat ((group ++ []) ++ m ∷ []) =
          ap (λ z. z ++ m) whole ∙ ap (λ z. concat (group ++ []) ++ z) (sym (append-nil m)) ∙ sym (concat-append (group ++ []) (m ∷ [])) in
          let above : PACKED_ROOM < HEADER_LENGTH + length contents + length m = leb-false (HEADER_LENGTH + length contents + length m) PACKED_ROOM e in
          let r : Continues (m ∷ []) messages (pack_from m messages) =
          continues (m ∷ []) messages m (sym (append-nil m)) (All-head FitsBlock m messages fit).0 (All-head FitsBlock m messages fit).1 (All-tail FitsBlock m messages fit) in
          record {
            first = [];
            others = (m ∷ r.first) ∷ r.others;
            each = ap (λ z. m ∷ z) r.each;
            blocks = rw e (ap (λ z. block contents ++ z) r.blocks ∙ ap (λ z. block z ++ (block_of (m ∷ r.first) ++ flat_map block_of r.others)) whole);
            room = omega (arith, ap length whole);
            rooms = All-cons IsInRoom (m ∷ r.first) r.others (omega arith, r.room) r.rooms;
            full = omega (arith, above, ap length behind, length-append contents m);
            fulls = (r.full, r.fulls);
          }
    ] refl

pub packs_groups : (messages : List (List ℕ)) → All FitsBlock messages → IsPacked messages (pack messages)
packs_groups [] fit = record { groups = []; each = refl; blocks = refl; room = All-nil IsInRoom; full = tt }
packs_groups (m ∷ messages) fit =
    let alone : fits [] m ≡ true = le-leb (HEADER_LENGTH + 0 + length m) PACKED_ROOM (omega (arith, (All-head FitsBlock m messages fit).1)) in
    let r : Continues (m ∷ []) messages (pack_from m messages) =
    continues (m ∷ []) messages m (sym (append-nil m)) (All-head FitsBlock m messages fit).0 (All-head FitsBlock m messages fit).1 (All-tail FitsBlock m messages fit) in
    record {
      groups = (m ∷ r.first) ∷ r.others;
      each = ap (λ z. m ∷ z) r.each;
      blocks = rw alone r.blocks;
      room = All-cons IsInRoom (m ∷ r.first) r.others (omega arith, r.room) r.rooms;
      full = (r.full, r.fulls);
    }
