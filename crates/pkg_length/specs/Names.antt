-- The names that refusals print: those of the table.
use Rattle.std.specs.Prelude.{ℕ, List, codes}
use Rattle.pkg_length.specs.declared.AmlError.{AmlError}
use Rattle.pkg_length.specs.declared.AmlError.TheVariants.{
  UnexpectedEndOfStream,
  InvalidPkgLength,
  BadOpcode,
  TooDeep,
  BlockTooLong,
  BadNameByte,
  EmptyNamesAreInvalid,
  InvalidNameSeg,
  TooManyComponents,
  InvalidNormalizedName,
  NotAbsolute,
  RootHasNoParent,
  RootNotAllowed,
  TriedToRemoveRootNamespace,
  LevelDoesNotExist,
  ValueDoesNotExist,
  NameCollision,
  LevelsFull,
  BindingsFull,
  ObjectsFull,
  NoSuchHandle,
  BudgetSpent,
  Unset,
  BadTable,
  OutTooSmall,
  BadPath,
  TableTooShort,
  BadSignature,
  BadTableLength,
  BadChecksum,
  PackageEndsEarly,
  ImageEndedEarly,
  ImageEdition,
  ImageCount,
  ImageDepth,
  ImageType,
  ImageSegment,
  ImageOrder,
  ImageDeepBindings,
  ImageBindingsOver,
  ImageBindingsShort,
  ImageHandle,
  ImageSpareBits,
  ImageBytesLeft,
}

abbrev pub refusal_name : AmlError → List ℕ
refusal_name (UnexpectedEndOfStream p) = codes "UnexpectedEndOfStream"
refusal_name (InvalidPkgLength p) = codes "InvalidPkgLength"
refusal_name (BadOpcode p) = codes "BadOpcode"
refusal_name (TooDeep p) = codes "TooDeep"
refusal_name BlockTooLong = codes "BlockTooLong"
refusal_name (BadNameByte p) = codes "BadNameByte"
refusal_name EmptyNamesAreInvalid = codes "EmptyNamesAreInvalid"
refusal_name (InvalidNameSeg p) = codes "InvalidNameSeg"
refusal_name TooManyComponents = codes "TooManyComponents"
refusal_name InvalidNormalizedName = codes "InvalidNormalizedName"
refusal_name NotAbsolute = codes "NotAbsolute"
refusal_name RootHasNoParent = codes "RootHasNoParent"
refusal_name RootNotAllowed = codes "RootNotAllowed"
refusal_name TriedToRemoveRootNamespace = codes "TriedToRemoveRootNamespace"
refusal_name (LevelDoesNotExist p) = codes "LevelDoesNotExist"
refusal_name ValueDoesNotExist = codes "ValueDoesNotExist"
refusal_name NameCollision = codes "NameCollision"
refusal_name LevelsFull = codes "LevelsFull"
refusal_name BindingsFull = codes "BindingsFull"
refusal_name ObjectsFull = codes "ObjectsFull"
refusal_name NoSuchHandle = codes "NoSuchHandle"
refusal_name BudgetSpent = codes "BudgetSpent"
refusal_name (Unset p) = codes "Unset"
refusal_name BadTable = codes "BadTable"
refusal_name (OutTooSmall p) = codes "OutTooSmall"
refusal_name BadPath = codes "BadPath"
refusal_name TableTooShort = codes "TableTooShort"
refusal_name BadSignature = codes "BadSignature"
refusal_name BadTableLength = codes "BadTableLength"
refusal_name BadChecksum = codes "BadChecksum"
refusal_name (PackageEndsEarly p) = codes "PackageEndsEarly"
refusal_name (ImageEndedEarly p) = codes "ImageEndedEarly"
refusal_name (ImageEdition p) = codes "ImageEdition"
refusal_name (ImageCount p) = codes "ImageCount"
refusal_name (ImageDepth p) = codes "ImageDepth"
refusal_name (ImageType p) = codes "ImageType"
refusal_name (ImageSegment p) = codes "ImageSegment"
refusal_name (ImageOrder p) = codes "ImageOrder"
refusal_name (ImageDeepBindings p) = codes "ImageDeepBindings"
refusal_name (ImageBindingsOver p) = codes "ImageBindingsOver"
refusal_name (ImageBindingsShort p) = codes "ImageBindingsShort"
refusal_name (ImageHandle p) = codes "ImageHandle"
refusal_name (ImageSpareBits p) = codes "ImageSpareBits"
refusal_name (ImageBytesLeft p) = codes "ImageBytesLeft"
