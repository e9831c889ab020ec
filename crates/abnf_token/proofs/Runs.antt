-- Steps of the machine over a text from its front.
use Rattle.std.proofs.Common.{◌≡◌, ℕ, ◌+◌, ◌<◌, ◌≤◌, [], ◌∷◌, length, drop, get_or, Option, None, Some, sym, ap, refl, ◌∙◌, arith, Bool, false}
use Rattle.std.specs.Prelude.{nat_eq, if◌then◌else◌}
use Rattle.std.proofs.lemmas.Bool.{ne_eqb}
use Rattle.std.proofs.lemmas.List.{drop_more, drop_all}
use Rattle.abnf_token.specs.declared.token.Kind.{Kind}
use Rattle.abnf_token.specs.declared.machine.State.{State}
use Rattle.abnf_token.specs.declared.machine.State.TheVariants.{Start, Name, Equals, Blank, Comment, Quote, Done, Dead}
use Rattle.abnf_token.specs.declared.token.Kind.TheVariants as k
use Rattle.abnf_token.specs.Classes.{Text, is_name_byte, is_blank_byte, is_quotable}
use Rattle.abnf_token.specs.own.Machine.{begin, step, munch, latest, accepted}
use Rattle.abnf_token.proofs.Longest.{munch_dead}

-- the first byte
pub begun : (bytes : Text) (st : State) → 0 < length bytes → begin (get_or bytes 0 0) ≡ st → munch st 1 (latest (accepted st) 1 None) (drop 1 bytes) ≡ munch Start 0 None bytes
begun [] st some e = absurd (omega arith)
begun (b ∷ bs) st some e = ap (λ s. munch s 1 (latest (accepted s) 1 None) bs) (sym e)

-- one more byte
pub stepped : (st next : State) (i : ℕ) (found : Option (Kind × ℕ)) (bytes : Text) → i < length bytes → step st (get_or bytes i 0) ≡ next → munch next (i + 1) (latest (accepted next) (i + 1) found) (drop (i + 1) bytes) ≡ munch st i found (drop i bytes)
stepped st next i found bytes lt e =
    ap (λ s. munch s (i + 1) (latest (accepted s) (i + 1) found) (drop (i + 1) bytes)) (sym e) ∙ ap (munch st i found) (sym (drop_more bytes i 0 lt))

-- a byte after which no class can be reached
pub stopped : (st : State) (i : ℕ) (found : Option (Kind × ℕ)) (bytes : Text) → i < length bytes → step st (get_or bytes i 0) ≡ Dead → found ≡ munch st i found (drop i bytes)
stopped st i found bytes lt e = sym (munch_dead (i + 1) found (drop (i + 1) bytes)) ∙ stepped st Dead i found bytes lt e

-- the end
pub ended : (st : State) (i : ℕ) (found : Option (Kind × ℕ)) (bytes : Text) → length bytes ≤ i → found ≡ munch st i found (drop i bytes)
ended st i found bytes le = ap (munch st i found) (sym (drop_all i bytes le))

-- a text that no further byte may follow
pub done : (kind : Kind) (i : ℕ) (found : Option (Kind × ℕ)) (rest : Text) → found ≡ munch (Done kind) i found rest
done kind i found [] = refl
done kind i found (b ∷ bs) = sym (munch_dead (i + 1) found bs)

-- ---- the bytes that end a name, blanks and a quotation
pub ends_name : (b : ℕ) → is_name_byte b ≡ false → step Name b ≡ Dead
ends_name b e = ap (λ (t : Bool). if t then Name else Dead) e

pub ends_blank : (b : ℕ) → is_blank_byte b ≡ false → step Blank b ≡ Dead
ends_blank b e = ap (λ (t : Bool). if t then Blank else Dead) e

pub ends_quotation : (b : ℕ) → nat_eq b 0x22 ≡ false → is_quotable b ≡ false → step Quote b ≡ Dead
ends_quotation b e f =
    ap (λ (t : Bool). if t then Done k.Quoted else (if is_quotable b then Quote else Dead)) e ∙ ap (λ (t : Bool). if t then Quote else Dead) f

-- ---- a comment, which goes on to the end
commented : (i : ℕ) (t : Text) → Some (k.Comment, i + length t) ≡ munch Comment i (Some (k.Comment, i)) t
commented i [] = ap (λ n. Some (k.Comment, n)) (omega arith)
commented i (b ∷ bs) = ap (λ n. Some (k.Comment, n)) (omega arith) ∙ commented (i + 1) bs

pub comment : (bytes : Text) → 0 < length bytes → begin (get_or bytes 0 0) ≡ Comment → Some (k.Comment, length bytes) ≡ munch Start 0 None bytes
comment [] some e = absurd (omega arith)
comment (b ∷ bs) some e = ap (λ n. Some (k.Comment, n)) (omega arith) ∙ (commented 1 bs ∙ begun (b ∷ bs) Comment some e)

-- ---- `=` and `=/`
is_equals : (bytes : Text) → get_or bytes 0 0 ≡ 0x3D → 0 < length bytes → munch Equals 1 (Some (k.Defines, 1)) (drop 1 bytes) ≡ munch Start 0 None bytes
is_equals bytes first some = begun bytes Equals some (ap begin first)

pub equals_alone : (bytes : Text) → get_or bytes 0 0 ≡ 0x3D → length bytes ≡ 1 → Some (k.Defines, 1) ≡ munch Start 0 None bytes
equals_alone bytes first one = ended Equals 1 (Some (k.Defines, 1)) bytes (omega arith) ∙ is_equals bytes first (omega arith)

pub equals_slash : (bytes : Text) → get_or bytes 0 0 ≡ 0x3D → 1 < length bytes → get_or bytes 1 0 ≡ 0x2F → Some (k.Adds, 2) ≡ munch Start 0 None bytes
equals_slash bytes first more slash =
    done k.Adds 2 (Some (k.Adds, 2)) (drop 2 bytes) ∙ (stepped Equals (Done k.Adds) 1 (Some (k.Defines, 1)) bytes more (ap (step Equals) slash)
    ∙ is_equals bytes first (omega arith))

pub equals_other : (bytes : Text) → get_or bytes 0 0 ≡ 0x3D → 1 < length bytes → (get_or bytes 1 0 ≡ 0x2F → ⊥) → Some (k.Defines, 1) ≡ munch Start 0 None bytes
equals_other bytes first more other =
    stopped Equals 1 (Some (k.Defines, 1)) bytes more (ap (λ (t : Bool). if t then Done k.Adds else Dead) (ne_eqb _ _ other)) ∙ is_equals bytes first (omega arith)

-- ---- a byte that is a token by itself
pub alone : (kind : Kind) (b : ℕ) (bytes : Text) → 0 < length bytes → get_or bytes 0 0 ≡ b → begin b ≡ Done kind → Some (kind, 1) ≡ munch Start 0 None bytes
alone kind b bytes some first begins = done kind 1 (Some (kind, 1)) (drop 1 bytes) ∙ begun bytes (Done kind) some (ap begin first ∙ begins)
