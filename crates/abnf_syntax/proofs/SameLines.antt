-- Lines that two texts have alike are alike as bytes.
use Rattle.std.proofs.Common.{◌≡◌, ℕ, ◌+◌, ◌-◌, ◌≤◌, List, take, drop, length, map, sym, ap, ◌∙◌, arith}
use Rattle.std.specs.Str.{encode_utf8_all}
use Rattle.std.specs.List.{drop-map, take-map}
use Rattle.ls_text.specs.Lines.{line_ends, lines}
use Rattle.abnf_token.specs.Classes.{Text}
use Rattle.abnf_syntax.specs.Blocks.{line_texts}
use Rattle.abnf_syntax.proofs.BlockLaws.{count_lines}

fronts_alike : (n : ℕ) (xs ys : List (List ℕ)) → take n xs ≡ take n ys → take n (map encode_utf8_all xs) ≡ take n (map encode_utf8_all ys)
fronts_alike n xs ys e = take-map encode_utf8_all n xs ∙ (ap (map encode_utf8_all) e ∙ sym (take-map encode_utf8_all n ys))

backs_alike : (n m : ℕ) (xs ys : List (List ℕ)) → drop n xs ≡ drop m ys → drop n (map encode_utf8_all xs) ≡ drop m (map encode_utf8_all ys)
backs_alike n m xs ys e = drop-map encode_utf8_all n xs ∙ (ap (map encode_utf8_all) e ∙ sym (drop-map encode_utf8_all m ys))

count_is : (text : List ℕ) (ls : List Text) → line_texts text ≡ ls → length ls ≡ line_ends text + 1
count_is text ls e = ap length (sym e) ∙ count_lines text

pub within : (text : List ℕ) (ls : List Text) (n : ℕ) → line_texts text ≡ ls → n ≤ line_ends text + 1 → n ≤ length ls
within text ls n e less = omega (arith, less, count_is text ls e)

pub same_fronts : (text other : List ℕ) (ls others : List Text) (n : ℕ) → line_texts text ≡ ls → line_texts other ≡ others → take n (lines text) ≡ take n (lines other)
    → take n ls ≡ take n others
same_fronts text other ls others n e f h = ap (take n) (sym e) ∙ (fronts_alike n (lines text) (lines other) h ∙ ap (take n) f)

pub same_backs : (text other : List ℕ) (ls others : List Text) (n : ℕ) → line_texts text ≡ ls → line_texts other ≡ others
    → drop ((line_ends text + 1) - n) (lines text) ≡ drop ((line_ends other + 1) - n) (lines other) → drop (length ls - n) ls ≡ drop (length others - n) others
same_backs text other ls others n e f h =
    (λ i. drop (count_is text ls e i - n) (sym e i))
    ∙ (backs_alike ((line_ends text + 1) - n) ((line_ends other + 1) - n) (lines text) (lines other) h
    ∙ (λ i. drop (sym (count_is other others f) i - n) (f i)))
