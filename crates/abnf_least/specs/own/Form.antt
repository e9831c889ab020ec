-- What a part's entry is made of: the form of a part, and its value where the entries of other parts are known.
use Rattle.std.specs.Prelude.{◌≡◌, ℕ, zero, suc, Bool, cond, nat_lt, nat_eq, ◌&&◌, ◌||◌, Option, Some, None, List, [], ◌∷◌, length, map}
use Rattle.abnf_cert.specs.declared.entry.Entry.{Entry}
use Rattle.abnf_cert.specs.declared.entry.Entry.TheVariants.{Nothing, Least}
use Rattle.abnf_parts.specs.declared.node.Node.{Node}
use Rattle.abnf_parts.specs.declared.node.Node.TheVariants.{Quoted, Series, Span, Seq, Alt, Rep, Ref, Opaque}
use Rattle.abnf_parts.specs.Part.{Part, quoted, series, span, seq, alt, rep, ref, opaque, numbers}
use Rattle.abnf_cert.specs.Accepted.{all_in_a_row, times, referred}

-- The form of a part: a text of so many characters; what is given no entry ever; a row of parts, and a choice among parts, by
-- their numbers; a part so many times and once more; and a reference to a root.
pub data Form : Type 0 where
  text : (characters : ℕ) → Form
  never : Form
  row : (parts : List ℕ) → Form
  one_of : (parts : List ℕ) → Form
  repeated : (more : ℕ) (body : ℕ) → Form
  refers : (root : ℕ) → Form

-- the form of part n, repeated at least so many times: a text of none where that is no time
abbrev pub repetition_form : ℕ → ℕ → Form
repetition_form zero n = text 0
repetition_form (suc more) n = repeated more n

-- the form of a repetition, which is given no entry where its minimum is above its maximum
abbrev pub repetition_up_to : ℕ → Option ℕ → ℕ → Form
repetition_up_to least None n = repetition_form least n
repetition_up_to least (Some most) n = cond (nat_lt most least) never (repetition_form least n)

-- the form of part n of a grammar whose rules have their roots at these numbers
abbrev pub part_form : (ℕ → ℕ) → ℕ → Part → Form
part_form root n (quoted t exact) = text (length t)
part_form root n (series characters) = text (length characters)
part_form root n (span low high) = cond (nat_lt high low) never (text 1)
part_form root n (seq ps) = row (numbers (suc n) ps)
part_form root n (alt ps) = one_of (numbers (suc n) ps)
part_form root n (rep least most p) = repetition_up_to least most (suc n)
part_form root n (ref name None) = never
part_form root n (ref name (Some r)) = refers (root r)
part_form root n opaque = never

-- the form of a node, where the rules have their roots at these numbers
abbrev pub node_form : (ℕ → ℕ) → Node → Form
node_form root (Quoted t exact) = text (length t.now)
node_form root (Series characters) = text (length characters)
node_form root (Span low high) = cond (nat_lt high low) never (text 1)
node_form root (Seq ns) = row ns
node_form root (Alt ns) = one_of ns
node_form root (Rep least most n) = repetition_up_to least most n
node_form root (Ref name None) = never
node_form root (Ref name (Some r)) = refers (root r)
node_form root Opaque = never

-- the numbers of the parts that the value depends on
abbrev pub needs : Form → List ℕ
needs (text n) = []
needs never = []
needs (row ns) = ns
needs (one_of ns) = ns
needs (repeated more n) = n ∷ []
needs (refers n) = n ∷ []

-- whether the first pair comes before the second
abbrev pub is_before : ℕ → ℕ → ℕ → ℕ → Bool
is_before l h m k = nat_lt l m || (nat_eq l m && nat_lt h k)

-- alternative i, unless the best of those after it comes before it
abbrev pub better : ℕ → Entry → Entry → Entry
better i Nothing best = best
better i (Least l h c) Nothing = Least l h i
better i (Least l h c) (Least m k d) = cond (is_before m k l h) (Least m k d) (Least l h i)

-- the first with the least pair, of alternatives that are numbered from i
abbrev pub first_least : ℕ → List Entry → Entry
first_least i [] = Nothing
first_least i (e ∷ es) = better i e (first_least (suc i) es)

-- the entry that a part of this form is given, where the entries of other parts are known
abbrev pub entry_given : (ℕ → Entry) → Form → Entry
entry_given at (text n) = Least n 0 0
entry_given at never = Nothing
entry_given at (row ns) = all_in_a_row (map at ns)
entry_given at (one_of ns) = first_least 0 (map at ns)
entry_given at (repeated more n) = times (suc more) (at n)
entry_given at (refers n) = referred (at n)

-- A part of this form is given nothing where no part is settled.
abbrev pub AwaitsParts : Form → Type 0
AwaitsParts f = entry_given (λ n. Nothing) f ≡ Nothing
