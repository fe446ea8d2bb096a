-- A store that tells what it holds has one input, and one end of the reading where no call fails.
use Rattle.std.proofs.Common.{◌≡◌, ◌≤◌, ◌<◌, ◌+◌, ℕ, List, [], ◌∷◌, ◌++◌, map, length, Option, None, Some, refl, ap, ap₂, sym, ◌∙◌, subst, arith, length-append, ◌⊎◌, inl, inr}
use Rattle.std.specs.Prelude.{IsUtf8}
use Rattle.std.proofs.lemmas.Bool.{cases_order}
use Rattle.std.proofs.lemmas.List.{append-nil, length-map}
use Rattle.th_input.specs.declared.unread.Unread.TheVariants.{Failed, BadLine}
use Rattle.std.specs.List.{AllByRecursion}
use Rattle.std.proofs.lemmas.List.Sums.{sum_by-cons, sum_by-append}
use Rattle.th_outside.specs.Store.{NamedFile, content}
use Rattle.th_input.specs.declared.limit.TheConstants.{MOST_FILE_BYTES, MOST_BYTES}
use Rattle.th_input.specs.declared.unread.Unread.{Unread}
use Rattle.th_input.specs.Listing.{lines_of, names_on, bytes_of, IsFirstBad}
use Rattle.th_input.specs.Input.{MayHold, IsListed, AreListed, AreNames, total, AreShort, AreHeld, AreRead, IsInputOf, IsInput, IsUnread, missing, failed, too_long, EndsAtList, list_unread, list_bad, EndsAtFile, file_unread, too_many, EndsWithin, EndsAmong, many_names, one_file, Ends, at_list, behind_list, IsFault}
use Rattle.th_input.proofs.Growing.{all_behind}

pub same_some : {X : Type 0} (x y : X) (o : Option X) → o ≡ Some x → o ≡ Some y → x ≡ y
same_some x y o e f = cc

apart : {X : Type 0} (x : X) (o : Option X) → o ≡ Some x → o ≡ None → ⊥
apart x o e f = cc

fault_of : (unread : Unread) (name : List ℕ) → unread ≡ Failed name → IsFault unread
fault_of unread name e = rw e tt

-- ---- names

same_listed : (files : List NamedFile) (list : Option (List ℕ)) (names others : List (List ℕ)) → AreListed (Some files) list names → AreListed (Some files) list others → names ≡ others
same_listed files None names others a b = a ∙ sym b
same_listed files (Some list) names others a b =
    let same = same_some a.bytes b.bytes (content files list) a.held b.held in
    a.names_are ∙ ap (λ (bytes : List ℕ). names_on (lines_of bytes)) same ∙ sym b.names_are

same_names : (files : List NamedFile) (list : Option (List ℕ)) (operands names others : List (List ℕ)) → AreNames (Some files) list operands names → AreNames (Some files) list operands others → names ≡ others
same_names files list operands names others a b =
    a.names_are ∙ ap (λ (l : List (List ℕ)). operands ++ l) (same_listed files list a.listed b.listed a.lists b.lists) ∙ sym b.names_are

-- ---- files that were read

same_file : (files : List NamedFile) (f g : NamedFile) → f.0 ≡ g.0 → MayHold (Some files) f.0 f.1 → MayHold (Some files) g.0 g.1 → f ≡ g
same_file files f g e a b =
    let same = same_some f.1 g.1 (content files g.0) (subst (λ n. content files n ≡ Some f.1) e a) b in
    ap₂ (λ (n : List ℕ) (bs : List ℕ). let p : NamedFile = (n, bs) in p) e same

head_is : {X : Type 0} (x y : X) (xs ys : List X) → x ∷ xs ≡ y ∷ ys → x ≡ y
head_is x y xs ys e = cc

tail_is : {X : Type 0} (x y : X) (xs ys : List X) → x ∷ xs ≡ y ∷ ys → xs ≡ ys
tail_is x y xs ys e = cc

pub same_read : (files p q : List NamedFile) → AreHeld (Some files) p → AreHeld (Some files) q → map (λ f. f.0) p ≡ map (λ f. f.0) q → p ≡ q
same_read files [] [] hp hq e = refl
same_read files [] (g ∷ q) hp hq e = absurd cc
same_read files (f ∷ p) [] hp hq e = absurd cc
same_read files (f ∷ p) (g ∷ q) hp hq e =
    ap₂ (λ (x : NamedFile) (xs : List NamedFile). x ∷ xs) (same_file files f g (head_is f.0 g.0 _ _ e) hp.0 hq.0) (same_read files p q hp.1 hq.1 (tail_is f.0 g.0 _ _ e))

-- ---- where one list of files goes on behind another

pub record GoesOn (files p : List NamedFile) (name : List ℕ) (q : List NamedFile) : Type 0 where
  pub bytes : List ℕ
  pub rest : List NamedFile
  pub held : content files name ≡ Some bytes
  pub is : q ≡ p ++ (name, bytes) ∷ rest

file_is : (f : NamedFile) (name : List ℕ) → name ≡ f.0 → f ≡ (name, f.1)
file_is f name e = ap (λ (n : List ℕ). let p : NamedFile = (n, f.1) in p) (sym e)

goes_on : (files p q : List NamedFile) (name : List ℕ) (behind rest : List (List ℕ)) → AreHeld (Some files) p → AreHeld (Some files) q
    → map (λ f. f.0) p ++ name ∷ behind ≡ map (λ f. f.0) q ++ rest → length p < length q → GoesOn files p name q
goes_on files p [] name behind rest hp hq e more = absurd (let h : ⊥ = omega arith in h)
goes_on files [] (g ∷ q) name behind rest hp hq e more =
    let named = head_is name g.0 behind _ e in
    record { bytes = g.1; rest = q; held = subst (λ n. content files n ≡ Some g.1) (sym named) hq.0; is = ap (λ (f : NamedFile). f ∷ q) (file_is g name named) }
goes_on files (f ∷ p) (g ∷ q) name behind rest hp hq e more =
    let same = same_file files f g (head_is f.0 g.0 _ _ e) hp.0 hq.0 in
    let on = goes_on files p q name behind rest hp.1 hq.1 (tail_is f.0 g.0 _ _ e) (omega arith) in
    record { bytes = on.bytes; rest = on.rest; held = on.held; is = ap₂ (λ (x : NamedFile) (xs : List NamedFile). x ∷ xs) (sym same) on.is }

-- ---- a file that was read ends nothing

total_of : (p : List NamedFile) (name bytes : List ℕ) (rest : List NamedFile) → total p + length bytes ≤ total (p ++ (name, bytes) ∷ rest)
total_of p name bytes rest =
    let whole = sum_by-append (λ (f : NamedFile). length f.1) p ((name, bytes) ∷ rest) in
    let one = sum_by-cons (λ (f : NamedFile). length f.1) (name, bytes) rest in
    omega (arith, whole, one)

read_ends_nothing : (files p rest : List NamedFile) (name bytes : List ℕ) (unread : Unread) → content files name ≡ Some bytes → AreShort (p ++ (name, bytes) ∷ rest)
    → EndsAtFile (Some files) p name unread → IsFault unread
read_ends_nothing files p rest name bytes unread held short (file_unread (missing lacks e)) = absurd (apart bytes (content files name) held lacks)
read_ends_nothing files p rest name bytes unread held short (file_unread (failed e)) = fault_of unread name e
read_ends_nothing files p rest name bytes unread held short (file_unread (too_long others other long e)) =
    let same = same_some bytes others (content files name) held other in
    let fits : length bytes ≤ MOST_FILE_BYTES = (all_behind (λ (f : NamedFile). length f.1 ≤ MOST_FILE_BYTES) p ((name, bytes) ∷ rest) short.each).0 in
    absurd (let long_too : MOST_FILE_BYTES < length bytes = subst (λ (bs : List ℕ). MOST_FILE_BYTES < length bs) (sym same) long in let h : ⊥ = omega (arith, fits, long_too) in h)
read_ends_nothing files p rest name bytes unread held short (too_many others other fits past e) =
    let same = same_some bytes others (content files name) held other in
    let within = total_of p name bytes rest in
    let past_too : MOST_BYTES < total p + length bytes = subst (λ (bs : List ℕ). MOST_BYTES < total p + length bs) (sym same) past in
    absurd (let h : ⊥ = omega (arith, within, past_too, short.together) in h)

goes_on_ends_nothing : (files p q : List NamedFile) (name : List ℕ) (unread : Unread) → GoesOn files p name q → AreShort q → EndsAtFile (Some files) p name unread → IsFault unread
goes_on_ends_nothing files p q name unread on short ends = read_ends_nothing files p on.rest name on.bytes unread on.held (subst AreShort on.is short) ends

-- ---- one end at one file

pub same_unread : (files : List NamedFile) (name : List ℕ) (unread other : Unread) → IsUnread (Some files) name unread → IsUnread (Some files) name other → (IsFault unread → ⊥) → (IsFault other → ⊥) → unread ≡ other
same_unread files name unread other (failed e) b ok fine = absurd (ok (fault_of unread name e))
same_unread files name unread other a (failed f) ok fine = absurd (fine (fault_of other name f))
same_unread files name unread other (missing lacks e) (missing none f) ok fine = e ∙ sym f
same_unread files name unread other (missing lacks e) (too_long bytes held long f) ok fine = absurd (apart bytes (content files name) held lacks)
same_unread files name unread other (too_long bytes held long e) (missing lacks f) ok fine = absurd (apart bytes (content files name) held lacks)
same_unread files name unread other (too_long bytes held long e) (too_long others too longer f) ok fine = e ∙ sym f

-- a file that is read may end the reading with others, and not by itself
pub whole_or_unread : (files : List NamedFile) (name bytes : List ℕ) (unread : Unread) → content files name ≡ Some bytes → length bytes ≤ MOST_FILE_BYTES → IsUnread (Some files) name unread → IsFault unread
whole_or_unread files name bytes unread held fits (missing lacks e) = absurd (apart bytes (content files name) held lacks)
whole_or_unread files name bytes unread held fits (failed e) = fault_of unread name e
whole_or_unread files name bytes unread held fits (too_long others other long e) =
    let same = same_some bytes others (content files name) held other in
    absurd (let long_too : MOST_FILE_BYTES < length bytes = subst (λ (bs : List ℕ). MOST_FILE_BYTES < length bs) (sym same) long in let h : ⊥ = omega (arith, fits, long_too) in h)

same_end : (files p : List NamedFile) (name : List ℕ) (unread other : Unread) → EndsAtFile (Some files) p name unread → EndsAtFile (Some files) p name other → (IsFault unread → ⊥) → (IsFault other → ⊥) → unread ≡ other
same_end files p name unread other (file_unread a) (file_unread b) ok fine = same_unread files name unread other a b ok fine
same_end files p name unread other (file_unread a) (too_many bytes held fits past f) ok fine = absurd (ok (whole_or_unread files name bytes unread held fits a))
same_end files p name unread other (too_many bytes held fits past e) (file_unread b) ok fine = absurd (fine (whole_or_unread files name bytes other held fits b))
same_end files p name unread other (too_many bytes held fits past e) (too_many others too small over f) ok fine = e ∙ sym f

same_front : (files p q : List NamedFile) (name other : List ℕ) (behind rest : List (List ℕ)) → AreHeld (Some files) p → AreHeld (Some files) q
    → map (λ f. f.0) p ++ name ∷ behind ≡ map (λ f. f.0) q ++ other ∷ rest → length p ≡ length q → (p ≡ q) × (name ≡ other)
same_front files [] [] name other behind rest hp hq e same = (refl, head_is name other behind rest e)
same_front files [] (g ∷ q) name other behind rest hp hq e same = absurd (let h : ⊥ = omega arith in h)
same_front files (f ∷ p) [] name other behind rest hp hq e same = absurd (let h : ⊥ = omega arith in h)
same_front files (f ∷ p) (g ∷ q) name other behind rest hp hq e same =
    let on = same_front files p q name other behind rest hp.1 hq.1 (tail_is f.0 g.0 _ _ e) (omega arith) in
    (ap₂ (λ (x : NamedFile) (xs : List NamedFile). x ∷ xs) (same_file files f g (head_is f.0 g.0 _ _ e) hp.0 hq.0) on.0, on.1)

pub ends_once : (files p q : List NamedFile) (name other : List ℕ) (behind rest : List (List ℕ)) (unread end : Unread) → AreHeld (Some files) p → AreHeld (Some files) q → AreShort p → AreShort q
    → map (λ f. f.0) p ++ name ∷ behind ≡ map (λ f. f.0) q ++ other ∷ rest → EndsAtFile (Some files) p name unread → EndsAtFile (Some files) q other end → (IsFault unread → ⊥) → (IsFault end → ⊥)
    → (length p ≡ length q) ⊎ ((length p < length q) ⊎ (length q < length p)) → unread ≡ end
ends_once files p q name other behind rest unread end hp hq sp sq e a b ok fine (inr (inl less)) =
    absurd (ok (goes_on_ends_nothing files p q name unread (goes_on files p q name behind (other ∷ rest) hp hq e less) sq a))
ends_once files p q name other behind rest unread end hp hq sp sq e a b ok fine (inr (inr more)) =
    absurd (fine (goes_on_ends_nothing files q p other end (goes_on files q p other rest (name ∷ behind) hq hp (sym e) more) sp b))
ends_once files p q name other behind rest unread end hp hq sp sq e a b ok fine (inl same) =
    let front = same_front files p q name other behind rest hp hq e same in
    same_end files q other unread end (subst (λ (n : List ℕ). EndsAtFile (Some files) q n unread) front.1 (subst (λ (f : List NamedFile). EndsAtFile (Some files) f name unread) front.0 a)) b ok fine

-- ---- one end of the reading

same_among : (files : List NamedFile) (names : List (List ℕ)) (unread end : Unread) → EndsAmong (Some files) names unread → EndsAmong (Some files) names end → (IsFault unread → ⊥) → (IsFault end → ⊥) → unread ≡ end
same_among files names unread end (many_names many e) (many_names more f) ok fine = e ∙ sym f
same_among files names unread end (many_names many e) (one_file few b) ok fine = absurd (let h : ⊥ = omega (arith, many, few) in h)
same_among files names unread end (one_file few a) (many_names many f) ok fine = absurd (let h : ⊥ = omega (arith, many, few) in h)
same_among files names unread end (one_file few a) (one_file too b) ok fine =
    ends_once files a.before b.before a.name b.name a.behind b.behind unread end a.held b.held a.short b.short (sym a.names_are ∙ b.names_are) a.ends b.ends ok fine
    (cases_order (length a.before) (length b.before))

-- a list that was read
short_list : (files : List NamedFile) (name : List ℕ) (names : List (List ℕ)) (unread : Unread) → IsListed (Some files) name names → EndsAtList (Some files) name unread → IsFault unread
short_list files name names unread read (list_unread is) = whole_or_unread files name read.bytes unread read.held read.short is
short_list files name names unread read (list_bad bytes held short offset bad e) =
    let same = same_some bytes read.bytes (content files name) held read.held in
    let utf8 : AllByRecursion IsUtf8 (lines_of bytes) = subst (λ (bs : List ℕ). AllByRecursion IsUtf8 (lines_of bs)) (sym same) read.utf8 in
    absurd (bad.bad (all_behind IsUtf8 bad.before (bad.line ∷ bad.behind) (subst (AllByRecursion IsUtf8) bad.lines_are utf8)).0)

first_bad : (p q : List (List ℕ)) (line other : List ℕ) (behind rest : List (List ℕ)) → AllByRecursion IsUtf8 p → AllByRecursion IsUtf8 q → (IsUtf8 line → ⊥) → (IsUtf8 other → ⊥)
    → p ++ line ∷ behind ≡ q ++ other ∷ rest → p ≡ q
first_bad [] [] line other behind rest gp gq bad worse e = refl
first_bad [] (g ∷ q) line other behind rest gp gq bad worse e = absurd (bad (subst IsUtf8 (sym (head_is line g behind _ e)) gq.0))
first_bad (f ∷ p) [] line other behind rest gp gq bad worse e = absurd (worse (subst IsUtf8 (head_is f other _ rest e) gp.0))
first_bad (f ∷ p) (g ∷ q) line other behind rest gp gq bad worse e =
    ap₂ (λ (x : List ℕ) (xs : List (List ℕ)). x ∷ xs) (head_is f g _ _ e) (first_bad p q line other behind rest gp.1 gq.1 bad worse (tail_is f g _ _ e))

same_bad : (lines : List (List ℕ)) (offset other : ℕ) → IsFirstBad lines offset → IsFirstBad lines other → offset ≡ other
same_bad lines offset other a b =
    a.begins ∙ ap bytes_of (first_bad a.before b.before a.line b.line a.behind b.behind a.good b.good a.bad b.bad (sym a.lines_are ∙ b.lines_are)) ∙ sym b.begins

same_at_list : (files : List NamedFile) (name : List ℕ) (unread end : Unread) → EndsAtList (Some files) name unread → EndsAtList (Some files) name end → (IsFault unread → ⊥) → (IsFault end → ⊥) → unread ≡ end
same_at_list files name unread end (list_unread a) (list_unread b) ok fine = same_unread files name unread end a b ok fine
same_at_list files name unread end (list_unread a) (list_bad bytes held short offset bad f) ok fine = absurd (ok (whole_or_unread files name bytes unread held short a))
same_at_list files name unread end (list_bad bytes held short offset bad e) (list_unread b) ok fine = absurd (fine (whole_or_unread files name bytes end held short b))
same_at_list files name unread end (list_bad bytes held short offset bad e) (list_bad others too fits other worse f) ok fine =
    let same = same_some bytes others (content files name) held too in
    e ∙ ap (λ n. BadLine name n) (same_bad (lines_of others) offset other (subst (λ (bs : List ℕ). IsFirstBad (lines_of bs) offset) same bad) worse) ∙ sym f

listed_ends_nothing : (files : List NamedFile) (list : Option (List ℕ)) (operands names : List (List ℕ)) (name : List ℕ) (unread : Unread) → AreNames (Some files) list operands names → list ≡ Some name
    → EndsAtList (Some files) name unread → IsFault unread
listed_ends_nothing files None operands names name unread are e ends = absurd cc
listed_ends_nothing files (Some list) operands names name unread are e ends =
    let same : list ≡ name = same_some list name (Some list) refl e in
    short_list files name are.listed unread (subst (λ (n : List ℕ). IsListed (Some files) n are.listed) same are.lists) ends

-- ---- the law

pub one : (files : List NamedFile) (list : Option (List ℕ)) (operands : List (List ℕ)) (read other : List NamedFile) → IsInput (Some files) list operands read → IsInput (Some files) list operands other → read ≡ other
one files list operands read other a b =
    same_read files read other a.input.read.held b.input.read.held (a.input.read.named ∙ same_names files list operands a.names b.names a.are_names b.are_names ∙ sym b.input.read.named)

pub within_read : (files : List NamedFile) (names : List (List ℕ)) (read : List NamedFile) (unread : Unread) → AreRead (Some files) names read → EndsWithin (Some files) names unread → IsFault unread
within_read files names read unread are ends =
    let e : map (λ (f : NamedFile). f.0) ends.before ++ ends.name ∷ ends.behind ≡ map (λ (f : NamedFile). f.0) read ++ [] = sym ends.names_are ∙ sym are.named ∙ sym (append-nil _) in
    let less : length ends.before < length read =
    (let left = length-append (map (λ (f : NamedFile). f.0) ends.before) (ends.name ∷ ends.behind) in
    let front : length (map (λ (f : NamedFile). f.0) ends.before) ≡ length ends.before = length-map ends.before (λ (f : NamedFile). f.0) in
    let all : length (map (λ (f : NamedFile). f.0) read) ≡ length read = length-map read (λ (f : NamedFile). f.0) in
    let same : length (map (λ (f : NamedFile). f.0) read) ≡ length (map (λ (f : NamedFile). f.0) ends.before ++ ends.name ∷ ends.behind) = ap length (are.named ∙ ends.names_are) in
    omega (arith, left, front, all, same)) in
    goes_on_ends_nothing files ends.before read ends.name unread (goes_on files ends.before read ends.name ends.behind [] ends.held are.held e less) are.short ends.ends

among_read : (files : List NamedFile) (names : List (List ℕ)) (read : List NamedFile) (unread : Unread) → IsInputOf (Some files) names read → EndsAmong (Some files) names unread → IsFault unread
among_read files names read unread input (many_names many e) = absurd (let few = input.few in let h : ⊥ = omega (arith, many, few) in h)
among_read files names read unread input (one_file few ends) = within_read files names read unread input.read ends

pub not_both : (files : List NamedFile) (list : Option (List ℕ)) (operands : List (List ℕ)) (read : List NamedFile) (unread : Unread) → IsInput (Some files) list operands read → Ends (Some files) list operands unread → IsFault unread
not_both files list operands read unread input (at_list name e ends) = listed_ends_nothing files list operands input.names name unread input.are_names e ends
not_both files list operands read unread input (behind_list names are ends) =
    let same = same_names files list operands names input.names are input.are_names in
    among_read files input.names read unread input.input (subst (λ (ns : List (List ℕ)). EndsAmong (Some files) ns unread) same ends)

pub one_end : (files : List NamedFile) (list : Option (List ℕ)) (operands : List (List ℕ)) (unread end : Unread) → Ends (Some files) list operands unread → Ends (Some files) list operands end
    → (IsFault unread → ⊥) → (IsFault end → ⊥) → unread ≡ end
one_end files list operands unread end (at_list name e a) (at_list other f b) ok fine =
    same_at_list files other unread end (subst (λ (n : List ℕ). EndsAtList (Some files) n unread) (same_some name other list e f) a) b ok fine
one_end files list operands unread end (at_list name e a) (behind_list names are b) ok fine = absurd (ok (listed_ends_nothing files list operands names name unread are e a))
one_end files list operands unread end (behind_list names are a) (at_list name f b) ok fine = absurd (fine (listed_ends_nothing files list operands names name end are f b))
one_end files list operands unread end (behind_list names are a) (behind_list others too b) ok fine =
    same_among files others unread end (subst (λ (ns : List (List ℕ)). EndsAmong (Some files) ns unread) (same_names files list operands names others are too) a) b ok fine
