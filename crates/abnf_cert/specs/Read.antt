-- How the text of a certificate is read.
use Rattle.std.specs.Prelude.{◌≡◌, ◌≢◌, ℕ, suc, ◌<◌, ◌^◌, Bool, true, false, ◌&&◌, min, Option, Some, None, List, [], ◌∷◌, ◌++◌, length, take, drop, if◌then◌else◌, ◌==◌, nat_lt}
use Rattle.std.specs.Char.{is_ascii_digit}
use Rattle.std.specs.List.{AllByRecursion}
use Rattle.std.specs.Str.Parse.{digits_value}
use Rattle.abnf_cert.specs.declared.entry.Entry.{Entry}
use Rattle.abnf_cert.specs.declared.entry.Entry.TheVariants.{Nothing, Least}
use Rattle.abnf_cert.specs.declared.fault.CertFault.{CertFault}
use Rattle.abnf_cert.specs.declared.fault.CertFault.TheVariants.{BadLine, OutOfOrder, NumberTooLarge, Memory}
use Rattle.abnf_cert.specs.Text.{cert_text}

infixl 10 ◌>>=◌
-- what comes next, if this is there
abbrev pub ◌>>=◌ : {A B : Type 0} → Option A → (A → Option B) → Option B
None >>= f = None
(Some x) >>= f = f x

-- how many digits stand at the front
abbrev pub digit_count : List ℕ → ℕ
digit_count [] = 0
digit_count (c ∷ cs) = if is_ascii_digit c then suc (digit_count cs) else 0

-- one or more digits without a leading zero; 0 by itself is one
abbrev pub is_plain_number : List ℕ → Bool
is_plain_number [] = false
is_plain_number (c ∷ []) = true
is_plain_number (c ∷ d ∷ cs) = if c == 48 then false else true

-- the number at the front and the bytes behind it; one above 64 bits counts as 2 ^ 64
abbrev pub number_at : List ℕ → Option (ℕ × List ℕ)
number_at bytes =
    if is_plain_number (take (digit_count bytes) bytes)
    then Some (min (digits_value 10 (take (digit_count bytes) bytes)) 18446744073709551616, drop (digit_count bytes) bytes)
    else None

-- the bytes behind this one
abbrev pub past_byte : ℕ → List ℕ → Option (List ℕ)
past_byte b [] = None
past_byte b (c ∷ cs) = if c == b then Some cs else None

-- what a line says of its part: nothing, or a length, a height and a choice
abbrev pub ToldEntry : Type 0
ToldEntry = Option (ℕ × ℕ × ℕ)

-- what is read of three numbers with a blank between, and the line's end, and the bytes behind them
unfoldable pub told_at : List ℕ → Option (ToldEntry × List ℕ)
told_at bytes =
    number_at bytes >>= λ l. past_byte 32 l.1 >>= λ r. number_at r >>= λ h. past_byte 32 h.1 >>= λ s. number_at s >>= λ c.
    past_byte 10 c.1 >>= λ rest.
    Some (Some (l.0, h.0, c.0), rest)

-- what a line says behind its number, and the bytes behind the line
abbrev pub rest_at : List ℕ → Option (ToldEntry × List ℕ)
rest_at [] = None
rest_at (c ∷ cs) = if c == 45 then (past_byte 10 cs >>= λ rest. Some (None, rest)) else told_at (c ∷ cs)

-- the line at the front: its number, what it says of its part, and the bytes behind it; no number has leading zeros
unfoldable pub line_read : List ℕ → Option (ℕ × ToldEntry × List ℕ)
line_read bytes = number_at bytes >>= λ n. past_byte 32 n.1 >>= λ r. rest_at r >>= λ t. Some (n.0, t.0, t.1)

-- the entry that a line says, if its numbers are of 64 bits
abbrev pub entry_told : ToldEntry → Option Entry
entry_told None = Some Nothing
entry_told (Some x) =
    if nat_lt x.0 18446744073709551616 && nat_lt x.1 18446744073709551616 && nat_lt x.2 18446744073709551616
    then Some (Least x.0 x.1 x.2)
    else None

-- The fault of the line at the front, which is to have number n: of two that it shows, the one that stands first here. Memory
-- may be refused where the line is an entry's.
abbrev pub IsLineFault : CertFault → ℕ → List ℕ → Type 0
IsLineFault BadLine n rest = (rest ≢ []) × (line_read rest ≡ None)
IsLineFault OutOfOrder n rest = (x : ℕ × ToldEntry × List ℕ) × (line_read rest ≡ Some x) × (x.0 ≢ n)
IsLineFault NumberTooLarge n rest = (x : ℕ × ToldEntry × List ℕ) × (line_read rest ≡ Some x) × (x.0 ≡ n) × (entry_told x.1 ≡ None)
IsLineFault Memory n rest = (x : ℕ × ToldEntry × List ℕ) × (line_read rest ≡ Some x) × (x.0 ≡ n) × (e : Entry) × (entry_told x.1 ≡ Some e)

-- the numbers of an entry are of 64 bits
abbrev pub IsWide : Entry → Type 0
IsWide Nothing = Unit {0}
IsWide (Least l h c) = (l < 2 ^ 64) × (h < 2 ^ 64) × (c < 2 ^ 64)

-- all numbers of a certificate are of 64 bits, and there are fewer than 2^64 entries
abbrev pub IsOf64Bits : List Entry → Type 0
IsOf64Bits es = AllByRecursion IsWide es × (length es < 2 ^ 64)

-- the fault of the first faulty line, before which the lines of entries stand
abbrev pub IsFirstFault : CertFault → List ℕ → Type 0
IsFirstFault fault bytes =
    (es : List Entry) × (rest : List ℕ) × AllByRecursion IsWide es × (bytes ≡ cert_text es ++ rest) × IsLineFault fault (length es) rest

-- the bytes are lines, of which the first has number n, that say these entries
abbrev pub Reads : ℕ → List ℕ → List Entry → Type 0
Reads n bytes [] = bytes ≡ []
Reads n bytes (e ∷ es) =
    (told : ToldEntry) × (rest : List ℕ) × (line_read bytes ≡ Some (n, told, rest)) × (entry_told told ≡ Some e) × Reads (suc n) rest es

-- what reads as a certificate is its text, so a certificate has one text
abbrev pub TextsAreUnique : Type 0
TextsAreUnique = (bytes : List ℕ) (es : List Entry) → length es < 2 ^ 64 → Reads 0 bytes es → bytes ≡ cert_text es

-- the text of a certificate reads as it, and as no other
abbrev pub TextsAreRead : Type 0
TextsAreRead =
    (es : List Entry) → IsOf64Bits es →
    Reads 0 (cert_text es) es × ((others : List Entry) → Reads 0 (cert_text es) others → others ≡ es)
