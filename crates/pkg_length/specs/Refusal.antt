-- What every call answers, and the refusals of documents 01 (to 26) and 02: the number and the place of each case of the code's `AmlError`.
use Rattle.std.specs.Prelude.{ℕ, Result, Ok, Err}
use Rattle.pkg_length.specs.declared.Refusal.{Refusal}
use Rattle.pkg_length.specs.declared.AmlError.{AmlError}
use Rattle.pkg_length.specs.declared.AmlError.TheVariants.{
  UnexpectedEndOfStream,
  InvalidPkgLength,
  BadOpcode,
  TooDeep,
  BlockTooLong,
  BadNameByte,
  EmptyNamesAreInvalid,
  InvalidNameSeg,
  TooManyComponents,
  InvalidNormalizedName,
  NotAbsolute,
  RootHasNoParent,
  RootNotAllowed,
  TriedToRemoveRootNamespace,
  LevelDoesNotExist,
  ValueDoesNotExist,
  NameCollision,
  LevelsFull,
  BindingsFull,
  ObjectsFull,
  NoSuchHandle,
  BudgetSpent,
  Unset,
  BadTable,
  OutTooSmall,
  BadPath,
  TableTooShort,
  BadSignature,
  BadTableLength,
  BadChecksum,
  PackageEndsEarly,
  ImageEndedEarly,
  ImageEdition,
  ImageCount,
  ImageDepth,
  ImageType,
  ImageSegment,
  ImageOrder,
  ImageDeepBindings,
  ImageBindingsOver,
  ImageBindingsShort,
  ImageHandle,
  ImageSpareBits,
  ImageBytesLeft,
}

-- a call gives a value, or refuses with a number at a place
pub data Answer (A : Type 0) : Type 0 where
  gives : A → Answer A
  refuses : ℕ → ℕ → Answer A

-- what follows an answer; a refusal stands
abbrev pub and_then : {A B : Type 0} → Answer A → (A → Answer B) → Answer B
and_then (gives a) next = next a
and_then (refuses n p) next = refuses n p

-- the table: number and place, 0 where it gives none
abbrev pub paper : AmlError → Refusal
paper (UnexpectedEndOfStream p) = (1, p)
paper (InvalidPkgLength p) = (2, p)
paper (BadOpcode p) = (3, p)
paper (TooDeep p) = (4, p)
paper BlockTooLong = (5, 0)
paper (BadNameByte p) = (6, p)
paper EmptyNamesAreInvalid = (7, 0)
paper (InvalidNameSeg p) = (8, p)
paper TooManyComponents = (9, 0)
paper InvalidNormalizedName = (10, 0)
paper NotAbsolute = (11, 0)
paper RootHasNoParent = (12, 0)
paper RootNotAllowed = (13, 0)
paper TriedToRemoveRootNamespace = (14, 0)
paper (LevelDoesNotExist p) = (15, p)
paper ValueDoesNotExist = (16, 0)
paper NameCollision = (17, 0)
paper LevelsFull = (18, 0)
paper BindingsFull = (19, 0)
paper ObjectsFull = (20, 0)
paper NoSuchHandle = (21, 0)
paper BudgetSpent = (22, 0)
paper (Unset p) = (23, p)
paper BadTable = (24, 0)
paper (OutTooSmall p) = (25, p)
paper BadPath = (26, 0)
paper TableTooShort = (27, 0)
paper BadSignature = (28, 0)
paper BadTableLength = (29, 0)
paper BadChecksum = (30, 0)
paper (PackageEndsEarly p) = (31, p)
paper (ImageEndedEarly p) = (32, p)
paper (ImageEdition p) = (33, p)
paper (ImageCount p) = (34, p)
paper (ImageDepth p) = (35, p)
paper (ImageType p) = (36, p)
paper (ImageSegment p) = (37, p)
paper (ImageOrder p) = (38, p)
paper (ImageDeepBindings p) = (39, p)
paper (ImageBindingsOver p) = (40, p)
paper (ImageBindingsShort p) = (41, p)
paper (ImageHandle p) = (42, p)
paper (ImageSpareBits p) = (43, p)
paper (ImageBytesLeft p) = (44, p)

-- a refusal of the code, as the paper states it
abbrev pub refused : {A : Type 0} → AmlError → Answer A
refused e = refuses (paper e).0 (paper e).1

-- what the code's answer says
abbrev pub said : {A : Type 0} → Result A AmlError → Answer A
said (Ok a) = gives a
said (Err e) = refused e

-- the same, of what the definitions name of a value
abbrev pub said_as : {A B : Type 0} → (A → B) → Result A AmlError → Answer B
said_as f (Ok a) = gives (f a)
said_as f (Err e) = refused e

-- a package that passes its part: 2, at the length's lead byte
abbrev pub passes_part : {A : Type 0} → ℕ → Answer A
passes_part lead = refuses 2 lead

-- a package that ends before its contents: 31, at the first byte beyond its end that was needed, or, where it does not hold its own length's bytes, at the lead byte
abbrev pub ends_early : {A : Type 0} → ℕ → Answer A
ends_early needed = refuses 31 needed

-- the longest block or part that is read; 5 above it
abbrev pub block_limit : ℕ
block_limit = 65536
