-- What is known of the bytes of a file.
use Rattle.std.proofs.Common.{◌≡◌, ◌∙◌, ℕ, ◌+◌, ◌<◌, ◌≤◌, ⊎_elim, List, [], ◌++◌, Option, Some, None, Result, Ok, Err, length, take, option_map, ap, refl, subst, sym, arith}
use Rattle.std.specs.Prelude.{IfSome, Vec, String, string_bytes, string_len, chars}
use Rattle.std.specs.String.{string_vec}
use Rattle.std.proofs.Common.{Global}
use Rattle.std.proofs.lemmas.Str.{IsUtf8-string_bytes}
use Rattle.std.specs.Result.{IsErrAnd}
use Rattle.ls_text.specs.declared.fault.TextFault.{TextFault}
use Rattle.ls_text.specs.declared.fault.TextFault.TheVariants as text
use Rattle.text_files.specs.declared.file.FileFault.{FileFault}
use Rattle.text_files.specs.declared.file.FileFault.TheVariants.{NotText}
use Rattle.text_files.specs.Files.{IsTextFile, fault_of_text}
use Rattle.std.proofs.lemmas.Bool.{cases_lt}
use Rattle.std.proofs.lemmas.List.{take_all, length-take}

-- what is read with a limit above the most is all, if it isn't more than the most
pub take_known : (o : Option (List ℕ)) (limit most : ℕ) (bytes old : List ℕ) → limit ≡ most + 1 → old ≡ [] → length bytes ≤ most → IfSome (option_map (take limit) o) (λ xs. bytes ≡ old ++ xs) → IfSome o (λ all. bytes ≡ all)
take_known None limit most bytes old one none few h = h
take_known (Some all) limit most bytes old one none few h =
    let same : bytes ≡ take limit all = subst (λ x. bytes ≡ x ++ take limit all) none h in
    same ∙ take_all limit all (omega (arith, length-take limit all, ap length same))

-- the bytes of a text that isn't too large
pub text_file : (text : String Global) (bytes : Vec ℕ Global) (s : List ℕ) → string_vec text ≡ bytes → string_len text ≤ 4194304 → s ≡ chars (string_bytes text) → IsTextFile bytes.items × (s ≡ chars bytes.items)
text_file text bytes s is small same =
    let few : length (string_bytes text) ≤ 4194304 = omega (arith, text.bytes.ok.0) in
    subst (λ (v : Vec ℕ Global). IsTextFile v.items × (s ≡ chars v.items)) is (record { utf8 = IsUtf8-string_bytes text; small = few }, same)

-- Bytes that are UTF-8 and aren't too many are a text's.
pub small_file : (text : String Global) (bytes : Vec ℕ Global) → string_vec text ≡ bytes → (4194304 < string_len text → ⊥) → IsTextFile bytes.items
small_file text bytes is few =
    let small : length (string_bytes text) ≤ 4194304 = ⊎_elim (λ more. absurd (few (omega (arith, more, text.bytes.ok.0)))) (λ le. le) (cases_lt 4194304 (length (string_bytes text))) in
    subst (λ (v : Vec ℕ Global). IsTextFile v.items) is (record { utf8 = IsUtf8-string_bytes text; small = small })

-- Bytes that are a text's and too many are no file's.
pub large_file : (text : String Global) (bytes : Vec ℕ Global) → string_vec text ≡ bytes → 4194304 < string_len text → IsTextFile bytes.items → ⊥
large_file text bytes is more file =
    let own : IsTextFile (string_bytes text) = subst (λ (v : Vec ℕ Global). IsTextFile v.items) (sym is) file in
    omega (arith, more, own.small, text.bytes.ok.0)

-- A text is refused as no text of a file exactly where it isn't one, if it is too large for this fault alone.
pub refused_file : {X : Type 0} (fault : TextFault) (result : Result X FileFault) (P : Type 0) → IsErrAnd result (λ f. f ≡ fault_of_text fault)
    → (fault ≡ text.TooLarge → P → ⊥) → (fault ≡ text.Memory → P) → (result ≡ Err NotText → P → ⊥) × ((P → ⊥) → result ≡ Err NotText)
refused_file fault (Ok x) P is large small = absurd is
refused_file text.TooLarge (Err f) P is large small = (λ same. large refl, λ none. ap Err is)
refused_file text.Memory (Err f) P is large small = (λ same. absurd (cc (is, same)), λ none. absurd (none (small refl)))
