-- What a walk from the end of a block to its start keeps of the lists of its points. Only this
-- crate's own functions cite it.
use Rattle.std.specs.Prelude.{◌≡◌, List, [], ◌∷◌, ◌++◌}
use Rattle.check_meaning.specs.declared.tree.CheckedStmt.{CheckedStmt}
use Rattle.check_meaning.specs.Code.{Code, Finish, Move, Ask, Fork, Loop, Quit, stmt_code}
use Rattle.may_use_analysis.specs.Flow.{Flow, Head}
use Rattle.may_use_analysis.specs.PointList.{PointList, IsPointList}
use Rattle.may_use_analysis.specs.Trails.{Symbols}

-- what a walk has added to old lists: the list of each point, the last point first
abbrev pub Recorded : Code → Symbols → List PointList → List PointList → Type 0
Recorded Finish after old new = new ≡ old
Recorded (Move x e rest) after old new = Recorded rest after old new
Recorded (Ask at p x c rest) after old new =
    (mid : List PointList) × (list : PointList) × Recorded rest after old mid
    × IsPointList list (Flow rest after) × (new ≡ mid ++ list ∷ [])
Recorded (Fork at p q test a b rest) after old new =
    (m1 : List PointList) × (m2 : List PointList) × (m3 : List PointList) × (second : PointList)
    × (first : PointList) × Recorded rest after old m1 × Recorded b (Flow rest after) m1 m2
    × IsPointList second (Flow b (Flow rest after))
    × Recorded a (Flow rest after) (m2 ++ second ∷ []) m3
    × IsPointList first (Flow a (Flow rest after)) × (new ≡ m3 ++ first ∷ [])
Recorded (Loop at p n x body rest) after old new =
    (m1 : List PointList) × (list : PointList) × Recorded rest after old m1
    × IsPointList list (Flow rest after) × Recorded body (Head x body (Flow rest after))
    (m1 ++ list ∷ []) new
Recorded (Quit es rest) after old new = Recorded rest after old new

abbrev pub StmtRecorded : CheckedStmt → Symbols → List PointList → List PointList → Type 0
StmtRecorded stmt = Recorded (stmt_code stmt Finish)
