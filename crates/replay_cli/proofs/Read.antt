-- What was read of names.
use Rattle.std.proofs.Common.{◌≡◌, ℕ, ◌+◌, ◌<◌, ◌≤◌, List, [], ◌∷◌, ◌++◌, length, map, is_none, get_or, take, Option, Some, None, Result, Ok, Err, IfOk, refl, ap, ◌∙◌, sym}
use Rattle.std.specs.List.{filter_map, find}
use Rattle.std.proofs.lemmas.List.{map-append, take_all, take_more}
use Rattle.std.proofs.lemmas.List.Folds.{find-append}
use Rattle.outside_io.specs.Names.{Opens, bytes_of}
use Rattle.outside_io.specs.Texts.{ReadsText}
use Rattle.outside_io.specs.declared.text.Unread.{Unread}
use Rattle.feed_reader.specs.Content.{Content, content, feed_of}
use Rattle.feed_reader.specs.Feeds.{ReadsWhole}
use Rattle.replay_cli.specs.Found.{ReadsEach, ReadsNamed, TextOf, Files, read_of}
use Rattle.replay_cli.proofs.Lists.{found_more}

-- what was read of a source that a name was opened as is the content of the bytes under the name
pub read_named : (files : Option (List (List ℕ × List ℕ))) (name : List ℕ) (left : Option (List ℕ)) (result : Result Content Unread) →
    Opens files name left → IfOk result (λ input. ReadsWhole left input) → IfOk result (λ input. ReadsNamed files name input)
read_named None name left (Ok v) opened read = tt
read_named None name left (Err e) opened read = read
read_named (Some files) name left (Err e) opened read = read
read_named (Some files) name left (Ok v) opened read = (opened.0, opened.1, rw opened.2 at read)

pub text_named : (files : Option (List (List ℕ × List ℕ))) (name : List ℕ) (most : ℕ) (left : Option (List ℕ)) (text : List ℕ) →
    Opens files name left → ReadsText left most text → TextOf files name most text
text_named None name most left text opened read = tt
text_named (Some files) name most left text opened read = (opened.0, opened.1, rw opened.2 at read)

-- ---- the feeds under names, one after the other

pub none_read : (files : Option Files) → ReadsEach files [] []
none_read None = tt
none_read (Some told) = (refl, refl)

pub one_more_read : (files : Option Files) (names : List (List ℕ)) (i : ℕ) (name : List ℕ) (inputs : List Content) (input : Content) → i < length names → name ≡ get_or names i name →
    ReadsEach files (take i names) inputs → ReadsNamed files name input → ReadsEach files (take (i + 1) names) (inputs ++ input ∷ [])
one_more_read None names i name inputs input within here before read = tt
one_more_read (Some told) names i name inputs input within here before read =
    let there : bytes_of (get_or names i name) told ≡ Some read.0 = ap (λ (n : List ℕ). bytes_of n told) (sym here) ∙ read.1 in
    let more = found_more (read_of told) names i name (feed_of read.0) within (rw there refl) in (
      ap (find (λ n. is_none (bytes_of n told))) (take_more names i name within) ∙ find-append (λ n. is_none (bytes_of n told)) (take i names) (get_or names i name ∷ []) ∙ rw (before.0, there) refl,
      ap (λ l. l ++ input ∷ []) before.1 ∙ ap (λ x. map content (filter_map (read_of told) (take i names)) ++ x ∷ []) read.2
          ∙ sym (map-append content (filter_map (read_of told) (take i names)) (feed_of read.0 ∷ [])) ∙ ap (map content) (sym more),
    )

pub all_read : (files : Option Files) (names : List (List ℕ)) (i : ℕ) (inputs : List Content) → length names ≤ i → ReadsEach files (take i names) inputs → ReadsEach files names inputs
all_read files names i inputs past read = rw (take_all i names past) at read
