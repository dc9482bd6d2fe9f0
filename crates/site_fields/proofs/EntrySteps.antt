-- The entries of a repeated table, one more at a time.
use Rattle.std.proofs.Common.{◌≡◌, ℕ, ◌+◌, ◌<◌, ◌≤◌, List, [], ◌∷◌, ◌++◌, map, take, length, get_or, Option, Some, None, ok_or, position, Ok, Err, refl, sym, ap, ◌∙◌, pos, zero-add}
use Rattle.std.proofs.lemmas.List.{take_more, map-append, take_all, get_or-map, length-map}
use Rattle.std.proofs.lemmas.List.FromFn.{get_or-enumerate_from, length-enumerate_from}
use Rattle.std.specs.List.{enumerate_from}
use Rattle.std.specs.Str.{bytes_eq}
use Rattle.toml.specs.Data.{Members, get_member, as_str}
use Rattle.site_fields.specs.declared.fault.Field.{Field}
use Rattle.site_fields.specs.declared.fault.SiteFault.{SiteFault}
use Rattle.site_fields.specs.declared.fault.SiteFault.TheVariants.{Missing, Kind}
use Rattle.site_fields.specs.declared.ranges.TheConstants.{NAME_LENGTH}
use Rattle.site_fields.specs.Kinds.{Reading, ◌>>=◌, Place, field, required, text}
use Rattle.site_fields.specs.Ranges.{within}
use Rattle.site_fields.specs.Lists.{each}
use Rattle.site_fields.specs.Entries.{unless_before, own_name, name_of, entry, entries}
use Rattle.site_fields.proofs.Each.{bind-ok, each-next, each-refused}

there : {A : Type 0} (o : Option A) (fault : SiteFault) (x : A) → ok_or o fault ≡ Ok x → o ≡ Some x
there None fault x h = cc
there (Some y) fault x h = cc

-- a text that was read is the name
text-name : (number : ℕ) (key : List ℕ) (at : Place) (name : List ℕ) → text number key at ≡ Ok name → name_of key at.members ≡ name
unfolding text required
text-name number key at name h =
    let s = bind-ok (required number key at) (λ value. ok_or (as_str value) (Kind (field number at))) name h in
    let value = there (get_member key at.members) (Missing (field number at)) s.0 s.1 in
    let text = there (as_str s.0) (Kind (field number at)) name s.2 in
    rw (value, text)

new-name : (at : Field) (name : List ℕ) (earlier : Option ℕ) (read : List ℕ) → unless_before at name earlier ≡ Ok read → name ≡ read
new-name at name None read h = cc
new-name at name (Some first) read h = cc

-- an entry's name that was read is its name
own_name-name : (number : ℕ) (key : List ℕ) (names : List (List ℕ)) (at : Place) (name : List ℕ) → own_name number key names at ≡ Ok name → name_of key at.members ≡ name
unfolding own_name
own_name-name number key names at name h =
    let s = bind-ok (text number key at) (λ name. within (field number at) NAME_LENGTH (pos (length name)) >>= (λ so_long. unless_before (field number at) name (position (bytes_eq name) names))) name h in
    let t = bind-ok (within (field number at) NAME_LENGTH (pos (length s.0))) (λ so_long. unless_before (field number at) s.0 (position (bytes_eq s.0) names)) name s.2 in
    text-name number key at s.0 s.1 ∙ new-name (field number at) s.0 _ name t.2

module _ {A : Type 0} (read : Place → Reading A) (number : ℕ) (key : List ℕ) (tables : List Members) where
  -- the entries up to this one were read, and these are their names
  pub record IsReadUpTo (i : ℕ) (names : List (List ℕ)) (found : List A) : Type 0 where
    pub named : names ≡ map (name_of key) (take i tables)
    pub read_so : each (entry read number key tables) (take i (enumerate_from 0 tables)) ≡ Ok found

  pub none_read : IsReadUpTo 0 [] []
  unfolding each
  none_read = record { named = refl; read_so = refl }

  pub all_read : (i : ℕ) (names : List (List ℕ)) (found : List A) → length tables ≤ i → IsReadUpTo i names found → entries read number key tables ≡ Ok found
  unfolding entries
  all_read i names found past up_to =
      let whole : take i (enumerate_from 0 tables) ≡ enumerate_from 0 tables = take_all i (enumerate_from 0 tables) (rw (length-enumerate_from 0 tables) past) in
      ap (each (entry read number key tables)) (sym whole) ∙ up_to.read_so

-- one more entry, where the tables are what g sees of a list
module _ {A X : Type 0} {read : Place → Reading A} {number : ℕ} {key : List ℕ} (g : X → Members) (xs : List X)
    {i : ℕ} {names : List (List ℕ)} {found : List A} {x : X} (within : i < length xs) (is : x ≡ get_or xs i x)
    (up_to : IsReadUpTo read number key (map g xs) i names found) where
  abbrev tables : List Members
  tables = map g xs

  abbrev numbered : List (ℕ × Members)
  numbered = enumerate_from 0 tables

  entry_is : get_or tables i (g x) ≡ g x
  entry_is = get_or-map g xs i x (g x) within ∙ ap g (sym is)

  among : i < length tables
  among = rw length-map within

  inside : i < length numbered
  inside = rw (length-enumerate_from 0 tables) among

  here : get_or numbered i (0, g x) ≡ (i, g x)
  here = get_or-enumerate_from 0 tables i (0, g x) among ∙ rw (zero-add i, entry_is)

  pub one_more : (name : List ℕ) (one : A) → own_name number key names (record { members = g x; entry = i }) ≡ Ok name → read (record { members = g x; entry = i }) ≡ Ok one → IsReadUpTo read number key (map g xs) (i + 1) (names ++ name ∷ []) (found ++ one ∷ [])
  unfolding entry
  one_more name one named h =
      let this : entry read number key tables (get_or numbered i (0, g x)) ≡ Ok one = rw (here, ← up_to.named, named) h in
      record {
        named = rw (take_more tables i (g x) among, entry_is, map-append (name_of key) (take i tables) (g x ∷ []), own_name-name number key names _ name named, ← up_to.named);
        read_so = each-next (entry read number key tables) numbered i (0, g x) found one inside up_to.read_so this;
      }

  pub name_refused : (fault : SiteFault) → own_name number key names (record { members = g x; entry = i }) ≡ Err fault → entries read number key (map g xs) ≡ Err fault
  unfolding entry entries
  name_refused fault h =
      let this : entry read number key tables (get_or numbered i (0, g x)) ≡ Err fault = rw (here, ← up_to.named, h) in
      each-refused (entry read number key tables) numbered i (0, g x) found fault inside up_to.read_so this

  pub entry_refused : (name : List ℕ) (fault : SiteFault) → own_name number key names (record { members = g x; entry = i }) ≡ Ok name → read (record { members = g x; entry = i }) ≡ Err fault → entries read number key (map g xs) ≡ Err fault
  unfolding entry entries
  entry_refused name fault named h =
      let this : entry read number key tables (get_or numbered i (0, g x)) ≡ Err fault = rw (here, ← up_to.named, named) h in
      each-refused (entry read number key tables) numbered i (0, g x) found fault inside up_to.read_so this

pub ruleset entry_steps = (none_read, one_more, name_refused, entry_refused, all_read, length-map)
