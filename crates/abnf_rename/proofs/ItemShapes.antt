-- Items without their places, and a rename of them.
use Rattle.std.specs.Prelude.{◌≡◌, Bool, false, not, ◌&&◌, List, [], ◌∷◌, map}
use Rattle.abnf_token.specs.declared.token.Kind.{Kind}
use Rattle.abnf_token.specs.Classes.{Text}
use Rattle.abnf_token.specs.Renamed.{touches, renamed_text}
use Rattle.abnf_syntax.specs.declared.item.Item.{Item}

-- an item's kind and text, and whether it is apart
abbrev pub Shape : Type 0
Shape = Kind × Text × Bool

abbrev pub shape : Item → Shape
shape item = (item.token.kind, item.token.text.now, item.apart)

-- The shapes with the new text at each place of the name, where `touched` says that a bad item or a number stands before.
abbrev pub renamed_shapes : Text → Text → Bool → List Shape → List Shape
renamed_shapes old new touched [] = []
renamed_shapes old new touched (x ∷ xs) = (x.0, renamed_text old new (touched && not x.2) x.0 x.1, x.2) ∷ renamed_shapes old new (touches x.0) xs

-- The items are the others with the new text at each place of the name.
abbrev pub AreRenamedItems : Text → Text → List Item → List Item → Type 0
AreRenamedItems old new items others = map shape others ≡ renamed_shapes old new false (map shape items)
