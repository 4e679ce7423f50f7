-- The table of refusals says one thing of each case: from the number and the place the case is found again.
use mathlib.Core.Path.{◌≡◌, refl, sym, ap, ◌∙◌}
use mathlib.Core.Bool.{cond}
use Prim.Native.Nat.{ℕ}
use native.Mathlib.Omega.{arith}
use lib.Dec.{eqb}
use Rattle.pkg_length.specs.declared.Refusal.{Refusal}
use Rattle.pkg_length.specs.declared.AmlError.{AmlError}
use Rattle.pkg_length.specs.declared.AmlError.TheVariants.{
  UnexpectedEndOfStream,
  InvalidPkgLength,
  BadOpcode,
  TooDeep,
  BlockTooLong,
  BadNameByte,
  EmptyNamesAreInvalid,
  InvalidNameSeg,
  TooManyComponents,
  InvalidNormalizedName,
  NotAbsolute,
  RootHasNoParent,
  RootNotAllowed,
  TriedToRemoveRootNamespace,
  LevelDoesNotExist,
  ValueDoesNotExist,
  NameCollision,
  LevelsFull,
  BindingsFull,
  ObjectsFull,
  NoSuchHandle,
  BudgetSpent,
  Unset,
  BadTable,
  OutTooSmall,
  BadPath,
  TableTooShort,
  BadSignature,
  BadTableLength,
  BadChecksum,
  PackageEndsEarly,
  ImageEndedEarly,
  ImageEdition,
  ImageCount,
  ImageDepth,
  ImageType,
  ImageSegment,
  ImageOrder,
  ImageDeepBindings,
  ImageBindingsOver,
  ImageBindingsShort,
  ImageHandle,
  ImageSpareBits,
  ImageBytesLeft,
}
use Rattle.pkg_length.specs.Refusal.{Answer, gives, refuses, paper, refused}

-- the case that has this number; any number that has none is given some case
unfoldable pub case_of : ℕ → ℕ → AmlError
case_of n p =
    cond (eqb n 1) (UnexpectedEndOfStream p) (cond (eqb n 2) (InvalidPkgLength p) (cond (eqb n 3) (BadOpcode p) (cond (eqb n 4) (TooDeep p)
    (cond (eqb n 5) BlockTooLong (cond (eqb n 6) (BadNameByte p) (cond (eqb n 7) EmptyNamesAreInvalid (cond (eqb n 8) (InvalidNameSeg p)
    (cond (eqb n 9) TooManyComponents (cond (eqb n 10) InvalidNormalizedName (cond (eqb n 11) NotAbsolute (cond (eqb n 12) RootHasNoParent
    (cond (eqb n 13) RootNotAllowed (cond (eqb n 14) TriedToRemoveRootNamespace (cond (eqb n 15) (LevelDoesNotExist p)
    (cond (eqb n 16) ValueDoesNotExist (cond (eqb n 17) NameCollision (cond (eqb n 18) LevelsFull (cond (eqb n 19) BindingsFull
    (cond (eqb n 20) ObjectsFull (cond (eqb n 21) NoSuchHandle (cond (eqb n 22) BudgetSpent (cond (eqb n 23) (Unset p) (cond (eqb n 24) BadTable
    (cond (eqb n 25) (OutTooSmall p) (cond (eqb n 26) BadPath (cond (eqb n 27) TableTooShort (cond (eqb n 28) BadSignature
    (cond (eqb n 29) BadTableLength (cond (eqb n 30) BadChecksum (cond (eqb n 31) (PackageEndsEarly p)
    (cond (eqb n 32) (ImageEndedEarly p) (cond (eqb n 33) (ImageEdition p) (cond (eqb n 34) (ImageCount p)
    (cond (eqb n 35) (ImageDepth p) (cond (eqb n 36) (ImageType p) (cond (eqb n 37) (ImageSegment p)
    (cond (eqb n 38) (ImageOrder p) (cond (eqb n 39) (ImageDeepBindings p) (cond (eqb n 40) (ImageBindingsOver p)
    (cond (eqb n 41) (ImageBindingsShort p) (cond (eqb n 42) (ImageHandle p) (cond (eqb n 43) (ImageSpareBits p) (ImageBytesLeft p)))))))))))))))))))))))))))))))))))))))))))

pub case-is : (e : AmlError) → case_of (paper e).0 (paper e).1 ≡ e
unfolding case_of
case-is (UnexpectedEndOfStream p) = refl
case-is (InvalidPkgLength p) = refl
case-is (BadOpcode p) = refl
case-is (TooDeep p) = refl
case-is BlockTooLong = refl
case-is (BadNameByte p) = refl
case-is EmptyNamesAreInvalid = refl
case-is (InvalidNameSeg p) = refl
case-is TooManyComponents = refl
case-is InvalidNormalizedName = refl
case-is NotAbsolute = refl
case-is RootHasNoParent = refl
case-is RootNotAllowed = refl
case-is TriedToRemoveRootNamespace = refl
case-is (LevelDoesNotExist p) = refl
case-is ValueDoesNotExist = refl
case-is NameCollision = refl
case-is LevelsFull = refl
case-is BindingsFull = refl
case-is ObjectsFull = refl
case-is NoSuchHandle = refl
case-is BudgetSpent = refl
case-is (Unset p) = refl
case-is BadTable = refl
case-is (OutTooSmall p) = refl
case-is BadPath = refl
case-is TableTooShort = refl
case-is BadSignature = refl
case-is BadTableLength = refl
case-is BadChecksum = refl
case-is (PackageEndsEarly p) = refl
case-is (ImageEndedEarly p) = refl
case-is (ImageEdition p) = refl
case-is (ImageCount p) = refl
case-is (ImageDepth p) = refl
case-is (ImageType p) = refl
case-is (ImageSegment p) = refl
case-is (ImageOrder p) = refl
case-is (ImageDeepBindings p) = refl
case-is (ImageBindingsOver p) = refl
case-is (ImageBindingsShort p) = refl
case-is (ImageHandle p) = refl
case-is (ImageSpareBits p) = refl
case-is (ImageBytesLeft p) = refl

-- equal number and place, equal case
pub paper-one : (a b : AmlError) → paper a ≡ paper b → a ≡ b
paper-one a b e = sym (case-is a) ∙ ap (λ (r : Refusal). case_of r.0 r.1) e ∙ case-is b

-- the same of the answers that state them
unfoldable pub case_in : {A : Type 0} → Answer A → AmlError
case_in (gives a) = BadPath
case_in (refuses n p) = case_of n p

pub refused-one : {A : Type 0} (a b : AmlError) → ◌≡◌ {A = Answer A} (refused a) (refused b) → a ≡ b
unfolding case_in
refused-one {A} a b e = sym (case-is a) ∙ ap (λ (r : Answer A). case_in r) e ∙ case-is b

-- a refusal has a number
pub paper-numbered : (e : AmlError) → (paper e).0 ≡ 0 → ⊥
paper-numbered (UnexpectedEndOfStream p) h = omega arith
paper-numbered (InvalidPkgLength p) h = omega arith
paper-numbered (BadOpcode p) h = omega arith
paper-numbered (TooDeep p) h = omega arith
paper-numbered BlockTooLong h = omega arith
paper-numbered (BadNameByte p) h = omega arith
paper-numbered EmptyNamesAreInvalid h = omega arith
paper-numbered (InvalidNameSeg p) h = omega arith
paper-numbered TooManyComponents h = omega arith
paper-numbered InvalidNormalizedName h = omega arith
paper-numbered NotAbsolute h = omega arith
paper-numbered RootHasNoParent h = omega arith
paper-numbered RootNotAllowed h = omega arith
paper-numbered TriedToRemoveRootNamespace h = omega arith
paper-numbered (LevelDoesNotExist p) h = omega arith
paper-numbered ValueDoesNotExist h = omega arith
paper-numbered NameCollision h = omega arith
paper-numbered LevelsFull h = omega arith
paper-numbered BindingsFull h = omega arith
paper-numbered ObjectsFull h = omega arith
paper-numbered NoSuchHandle h = omega arith
paper-numbered BudgetSpent h = omega arith
paper-numbered (Unset p) h = omega arith
paper-numbered BadTable h = omega arith
paper-numbered (OutTooSmall p) h = omega arith
paper-numbered BadPath h = omega arith
paper-numbered TableTooShort h = omega arith
paper-numbered BadSignature h = omega arith
paper-numbered BadTableLength h = omega arith
paper-numbered BadChecksum h = omega arith
paper-numbered (PackageEndsEarly p) h = omega arith
paper-numbered (ImageEndedEarly p) h = omega arith
paper-numbered (ImageEdition p) h = omega arith
paper-numbered (ImageCount p) h = omega arith
paper-numbered (ImageDepth p) h = omega arith
paper-numbered (ImageType p) h = omega arith
paper-numbered (ImageSegment p) h = omega arith
paper-numbered (ImageOrder p) h = omega arith
paper-numbered (ImageDeepBindings p) h = omega arith
paper-numbered (ImageBindingsOver p) h = omega arith
paper-numbered (ImageBindingsShort p) h = omega arith
paper-numbered (ImageHandle p) h = omega arith
paper-numbered (ImageSpareBits p) h = omega arith
paper-numbered (ImageBytesLeft p) h = omega arith
