-- The edges of a polygon, one by one.
use Rattle.std.proofs.Common.{◌≡◌, ap, ◌∙◌, refl, ℕ, ◌+◌, ◌<◌, ◌≤◌, List, [], ◌∷◌, ◌++◌, length, get_or, take, drop, Some, slice_get, ℤ, pos, arith, length-append}
use Rattle.std.proofs.Math.Seq.{get_or-append_seam}
use Rattle.std.proofs.lemmas.List.{get_or_append_left}
use Rattle.std.proofs.lemmas.Option.{slice_get-get_or}
use Rattle.std.proofs.lemmas.Slice.Zip.{length-zip, get_or-zip}
use Rattle.polygon_plan.specs.Inside.{edges}

-- as many ends as starts
length-ends : (points : List (ℤ × ℤ)) → length (drop 1 points ++ take 1 points) ≡ length points
length-ends [] = refl
length-ends (p ∷ ps) = omega (arith, length-append ps (p ∷ []))

pub length-edges : (points : List (ℤ × ℤ)) → length (edges points) ≡ length points
length-edges points = omega (arith, length-zip points (drop 1 points ++ take 1 points), length-ends points)

end_inside : (points : List (ℤ × ℤ)) (i : ℕ) (d : ℤ × ℤ) → i + 1 < length points → get_or (drop 1 points ++ take 1 points) i d ≡ get_or points (i + 1) d
end_inside [] i d h = absurd (omega arith)
end_inside (p ∷ ps) i d h = get_or_append_left ps (p ∷ []) d i (omega arith) ∙ grind arith

end_last : (points : List (ℤ × ℤ)) (i : ℕ) (d : ℤ × ℤ) → i < length points → length points ≤ i + 1 → get_or (drop 1 points ++ take 1 points) i d ≡ get_or points 0 d
end_last [] i d h last = absurd (omega arith)
end_last (p ∷ ps) i d h last = let same : i ≡ length ps = omega arith in rw same (get_or-append_seam ps p [] d)

edge_is : (points : List (ℤ × ℤ)) (i : ℕ) (to : ℤ × ℤ) → i < length points → get_or (drop 1 points ++ take 1 points) i (pos 0, pos 0) ≡ to → slice_get (edges points) i ≡ Some (get_or points i (pos 0, pos 0), to)
edge_is points i to inside to_is =
    slice_get-get_or (edges points) i ((pos 0, pos 0), (pos 0, pos 0)) (omega (arith, length-edges points)) ∙
    ap Some (get_or-zip points (drop 1 points ++ take 1 points) i ((pos 0, pos 0), (pos 0, pos 0)) inside (omega (arith, length-ends points)) ∙
    ap (λ (end : ℤ × ℤ). (get_or points i (pos 0, pos 0), end)) to_is)

pub edge_inside : (points : List (ℤ × ℤ)) (i : ℕ) → i + 1 < length points → slice_get (edges points) i ≡ Some (get_or points i (pos 0, pos 0), get_or points (i + 1) (pos 0, pos 0))
edge_inside points i h = edge_is points i _ (omega arith) (end_inside points i (pos 0, pos 0) h)

pub edge_last : (points : List (ℤ × ℤ)) (i : ℕ) → i < length points → length points ≤ i + 1 → slice_get (edges points) i ≡ Some (get_or points i (pos 0, pos 0), get_or points 0 (pos 0, pos 0))
edge_last points i h last = edge_is points i _ h (end_last points i (pos 0, pos 0) h last)
