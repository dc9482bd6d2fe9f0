-- The items of category 062 by FRN and the subfields of its compound ones, in plain numerals and in the standard's order (ASTERIX part 9; that subfield 8 of 380 has one octet is this project's profile).
use Rattle.std.specs.Prelude.{List, [], ◌∷◌, ◌++◌, map}
use Rattle.asterix_fields.specs.declared.tables.Form.{Form}
use Rattle.asterix_fields.specs.declared.tables.Form.TheVariants.{Spare, Fixed, Extended, Explicit, Repeat, Compound}

-- Seven items to an octet of the FSPEC; a compound one with the row of its first subfield, from 0, and how many it has.

-- 010, spare, 015, 070, 105, 100 and 185
abbrev pub items_1_to_7 : List Form
items_1_to_7 = Fixed 2 ∷ Spare ∷ Fixed 1 ∷ Fixed 3 ∷ Fixed 8 ∷ Fixed 6 ∷ Fixed 4 ∷ []

-- 210, 060, 245, 380, 040, 080 and 290
abbrev pub items_8_to_14 : List Form
items_8_to_14 = Fixed 2 ∷ Fixed 2 ∷ Fixed 7 ∷ Compound 0 28 ∷ Fixed 2 ∷ Extended 1 ∷ Compound 28 10 ∷ []

-- 200, 295, 136, 130, 135, 220 and 390
abbrev pub items_15_to_21 : List Form
items_15_to_21 = Fixed 1 ∷ Compound 38 31 ∷ Fixed 2 ∷ Fixed 2 ∷ Fixed 2 ∷ Fixed 2 ∷ Compound 69 18 ∷ []

-- 270, 300, 110, 120, 510, 500 and 340
abbrev pub items_22_to_28 : List Form
items_22_to_28 = Extended 1 ∷ Fixed 1 ∷ Compound 87 7 ∷ Fixed 2 ∷ Extended 3 ∷ Compound 94 8 ∷ Compound 102 6 ∷ []

-- five spare ones, the reserved expansion field and the special purpose field
abbrev pub items_29_to_35 : List Form
items_29_to_35 = Spare ∷ Spare ∷ Spare ∷ Spare ∷ Spare ∷ Explicit ∷ Explicit ∷ []

abbrev pub items : List Form
items = items_1_to_7 ++ items_8_to_14 ++ items_15_to_21 ++ items_22_to_28 ++ items_29_to_35

-- the lengths of subfields, seven to a primary octet: of item 380, with two repeated ones
abbrev pub subfields_380 : List Form
subfields_380 =
    map Fixed (3 ∷ 6 ∷ 2 ∷ 2 ∷ 2 ∷ 2 ∷ 2 ∷ [])
    ++ (Fixed 1 ∷ Repeat 15 ∷ Fixed 2 ∷ Fixed 2 ∷ Fixed 7 ∷ Fixed 2 ∷ Fixed 2 ∷ [])
    ++ map Fixed (2 ∷ 2 ∷ 2 ∷ 2 ∷ 1 ∷ 8 ∷ 1 ∷ [])
    ++ (Fixed 6 ∷ Fixed 2 ∷ Fixed 1 ∷ Repeat 8 ∷ Fixed 2 ∷ Fixed 2 ∷ Fixed 2 ∷ [])

abbrev pub subfields_290 : List Form
subfields_290 = map Fixed (1 ∷ 1 ∷ 1 ∷ 1 ∷ 2 ∷ 1 ∷ 1 ∷ []) ++ map Fixed (1 ∷ 1 ∷ 1 ∷ [])

-- thirty-one, of an octet each
abbrev pub subfields_295 : List Form
subfields_295 =
    map Fixed (1 ∷ 1 ∷ 1 ∷ 1 ∷ 1 ∷ 1 ∷ 1 ∷ [])
    ++ map Fixed (1 ∷ 1 ∷ 1 ∷ 1 ∷ 1 ∷ 1 ∷ 1 ∷ [])
    ++ map Fixed (1 ∷ 1 ∷ 1 ∷ 1 ∷ 1 ∷ 1 ∷ 1 ∷ [])
    ++ map Fixed (1 ∷ 1 ∷ 1 ∷ 1 ∷ 1 ∷ 1 ∷ 1 ∷ [])
    ++ map Fixed (1 ∷ 1 ∷ 1 ∷ [])

-- one repeated
abbrev pub subfields_390 : List Form
subfields_390 =
    map Fixed (2 ∷ 7 ∷ 4 ∷ 1 ∷ 4 ∷ 1 ∷ 4 ∷ [])
    ++ (Fixed 4 ∷ Fixed 3 ∷ Fixed 2 ∷ Fixed 2 ∷ Repeat 4 ∷ Fixed 6 ∷ Fixed 1 ∷ [])
    ++ map Fixed (7 ∷ 7 ∷ 2 ∷ 7 ∷ [])

abbrev pub subfields_110 : List Form
subfields_110 = map Fixed (1 ∷ 4 ∷ 6 ∷ 2 ∷ 2 ∷ 1 ∷ 1 ∷ [])

abbrev pub subfields_500 : List Form
subfields_500 = map Fixed (4 ∷ 2 ∷ 4 ∷ 1 ∷ 1 ∷ 2 ∷ 2 ∷ []) ++ map Fixed (1 ∷ [])

abbrev pub subfields_340 : List Form
subfields_340 = map Fixed (2 ∷ 4 ∷ 2 ∷ 2 ∷ 2 ∷ 1 ∷ [])

-- one item's behind the other's, in the order of their FRNs: 11, 14, 16, 21, 24, 27 and 28
abbrev pub subfields : List Form
subfields = subfields_380 ++ subfields_290 ++ subfields_295 ++ subfields_390 ++ subfields_110 ++ subfields_500 ++ subfields_340
