-- Worked lines, and what goes wrong where a name is renamed that has no place.
use Rattle.std.proofs.Common.{◌≡◌, false, [], ◌∷◌, refl, sym, arith}
use Rattle.std.specs.Prelude.{codes}
use Rattle.abnf_token.specs.declared.token.Kind.TheVariants as k
use Rattle.abnf_token.specs.Renamed.{joined, AreCut, renamed}
use Rattle.abnf_token.proofs.Cuts.{never}

-- `a = %item`: the name behind `%` stays
misspelled : renamed (codes "item") (codes "x41") false ((k.Name, codes "a") ∷ (k.Blank, codes " ") ∷ (k.Defines, codes "=") ∷ (k.Blank, codes " ") ∷ (k.Bad, codes "%") ∷ (k.Name, codes "item") ∷ [])
    ≡ (k.Name, codes "a") ∷ (k.Blank, codes " ") ∷ (k.Defines, codes "=") ∷ (k.Blank, codes " ") ∷ (k.Bad, codes "%") ∷ (k.Name, codes "item") ∷ []
misspelled = refl

-- `1*ITEM ; item`: a use in other case, and a comment
other_case : joined (renamed (codes "item") (codes "Thing") false ((k.Repeat, codes "1*") ∷ (k.Name, codes "ITEM") ∷ (k.Blank, codes " ") ∷ (k.Comment, codes "; item") ∷ [])) ≡ codes "1*Thing ; item"
other_case = refl

-- `%item` with `x41` would be a number,
number_joins : AreCut ((k.Bad, codes "%") ∷ (k.Name, codes "x41") ∷ []) → ⊥
number_joins c = never (sym (c.0.fits.1 k.Number 4 (omega arith) (omega arith)))

-- `%x4zz` with `a1` in the place of `zz` a longer number,
number_grows : AreCut ((k.Number, codes "%x4") ∷ (k.Name, codes "a1") ∷ []) → ⊥
number_grows c = never (sym (c.0.fits.1 k.Number 5 (omega arith) (omega arith)))

-- and `%z"x"` with `s` in the place of `z` a quoted text.
quoted_joins : AreCut ((k.Bad, codes "%") ∷ (k.Name, codes "s") ∷ (k.Quoted, codes "\"x\"") ∷ []) → ⊥
quoted_joins c = never (sym (c.0.fits.1 k.Quoted 5 (omega arith) (omega arith)))

-- Two names never stand side by side,
names_join : AreCut ((k.Name, codes "a") ∷ (k.Name, codes "b") ∷ []) → ⊥
names_join c = never (sym (c.0.fits.1 k.Name 2 (omega arith) (omega arith)))

-- and the text put in must be a name.
not_a_name : AreCut ((k.Quoted, codes "\"x\"") ∷ (k.Name, codes "2") ∷ []) → ⊥
not_a_name c = never c.1.0.fits.0
