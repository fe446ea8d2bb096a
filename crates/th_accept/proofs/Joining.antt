-- What the calls below ask of class files that were read.
use Rattle.std.proofs.Common.{◌≡◌, ℕ, ◌+◌, ◌<◌, ◌≤◌, ◌^◌, List, [], ◌∷◌, length, take, get_or, Some, Result, Err, sym, subst, arith}
use Rattle.std.specs.Prelude.{All, Contains}
use Rattle.std.proofs.lemmas.List.Elements.{All-nil, All-cons, All-more}
use Rattle.std.proofs.lemmas.List.{take_all}
use Rattle.std.proofs.lemmas.Slice.Zip.{AllZip-long}
use Rattle.th_base.specs.declared.fail.Fail.{Fail}
use Rattle.th_base.specs.declared.fail.Fail.TheVariants.{Refused, NoMemory}
use Rattle.th_syntax.specs.declared.class_file.ClassFile.{ClassFile}
use Rattle.th_syntax.specs.declared.class_file.Code.{Code}
use Rattle.th_syntax.specs.declared.class_file.Member.{Member}
use Rattle.th_syntax.specs.declared.refusal.Refusal.{Refusal}
use Rattle.th_syntax.specs.ClassGrammar.{IsClassFile}
use Rattle.th_kinds.specs.Flowing.{FlowsWell}
use Rattle.th_linker.specs.Checking as linking
use Rattle.th_linker.specs.Linkable.{CanLink, HasFewMembers}
use Rattle.th_linker.specs.declared.linkable.TheConstants.{MOST_FILES}
use Rattle.th_accept.specs.Accepted.{File, StandFor}
use Rattle.th_accept.specs.Answers.{FlowsThroughout, IfRefused, IsShort}

abbrev AreFew : (ClassFile → ℕ) → Type 0
AreFew count = (bytes : List ℕ) (class : ClassFile) → IsClassFile bytes class → count class < 2 ^ 16

have_few : AreFew (λ c. length c.fields) → AreFew (λ c. length c.methods) → (files : List File) (classes : List ClassFile) → StandFor files classes → All HasFewMembers classes
have_few fields methods [] [] stand = All-nil HasFewMembers
have_few fields methods (f ∷ files) (c ∷ classes) stand =
    let some = fields f.1 c stand.0 in
    let other = methods f.1 c stand.0 in
    All-cons HasFewMembers c classes (record { fields = omega (arith, some); methods = omega (arith, other) }) (have_few fields methods files classes stand.1)
have_few fields methods [] (c ∷ classes) stand = absurd stand
have_few fields methods (f ∷ files) [] stand = absurd stand

pub can_link : (files : List File) (classes : List ClassFile) → StandFor files classes → length files ≤ MOST_FILES → AreFew (λ c. length c.fields) → AreFew (λ c. length c.methods) → CanLink classes
can_link files classes stand few fields methods =
    let same : length classes ≡ length files = AllZip-long (λ (f : File) (c : ClassFile). IsClassFile f.1 c) files classes stand in
    record { few = omega (arith, same, few); members = have_few fields methods files classes stand }

pub all_flow : ((bytes : List ℕ) (class : ClassFile) (m : Member) (code : Code) → IsClassFile bytes class → Contains class.methods m → m.code ≡ Some code → FlowsWell code.instrs)
    → (files : List File) (classes : List ClassFile) → StandFor files classes → All FlowsThroughout classes
all_flow law [] [] stand = All-nil FlowsThroughout
all_flow law (f ∷ files) (c ∷ classes) stand = All-cons FlowsThroughout c classes (λ m code among coded. law f.1 c m code stand.0 among coded) (all_flow law files classes stand.1)
all_flow law [] (c ∷ classes) stand = absurd stand
all_flow law (f ∷ files) [] stand = absurd stand

-- a fault that is handed on
pub handed_on : {X Y : Type 0} {P Q : Refusal → Type 0} (r : Result X (Fail Refusal)) (s : Result Y (Fail Refusal)) (fail : Fail Refusal) → r ≡ Err fail → s ≡ Err fail → IfRefused r P
    → ((refusal : Refusal) → P refusal → Q refusal) → IfRefused s Q
handed_on {P = P} {Q = Q} r s (Refused refusal) from to refused then =
    subst (λ t. IfRefused t Q) (sym to) (then refusal (subst (λ t. IfRefused t P) from refused))
handed_on {Q = Q} r s NoMemory from to refused then = subst (λ t. IfRefused t Q) (sym to) tt

-- a refusal of linking that is handed on
pub linking_handed_on : {X Y : Type 0} {P Q : Refusal → Type 0} (r : Result X (Fail Refusal)) (s : Result Y (Fail Refusal)) (fail : Fail Refusal) → r ≡ Err fail → s ≡ Err fail → linking.IfRefused r P
    → ((refusal : Refusal) → P refusal → Q refusal) → IfRefused s Q
linking_handed_on {P = P} {Q = Q} r s (Refused refusal) from to refused then =
    subst (λ t. IfRefused t Q) (sym to) (then refusal (subst (λ t. linking.IfRefused t P) from refused))
linking_handed_on {Q = Q} r s NoMemory from to refused then = subst (λ t. IfRefused t Q) (sym to) tt

-- a refusal as it is, for what follows from its reason
pub refused_then : (X Y : Type 0) (P Q : Refusal → Type 0) (fail : Fail Refusal) → IfRefused {X = X} (Err fail) P → ((refusal : Refusal) → P refusal → Q refusal) → IfRefused {X = Y} (Err fail) Q
refused_then X Y P Q (Refused refusal) refused then = then refusal refused
refused_then X Y P Q NoMemory refused then = tt

-- ---- short files

pub more_short : (files : List File) (i : ℕ) (x : File) → i < length files → x ≡ get_or files i x → length x.1 < 2 ^ 32 → All IsShort (take i files) → All IsShort (take (i + 1) files)
more_short files i x h e here all = All-more IsShort files i x h all (subst IsShort e here)

pub all_short : (files : List File) (i : ℕ) → length files ≤ i → All IsShort (take i files) → All IsShort files
all_short files i h all = subst (All IsShort) (take_all i files h) all
