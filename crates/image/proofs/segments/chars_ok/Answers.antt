-- Each character is of its kind.
use Rattle.name_object.specs.Component.{is_seg_ok}
use Rattle.image.specs.Reader.{are_chars_ok}
use Rattle.image.proofs.Characters.{highest}
use Rattle.image.proofs.segments.chars_ok.Goals as goal

pub returns : goal.returns
returns c =
    unfold are_chars_ok is_seg_ok in rw
    (c.is_lead_name_char.ensures, c.is_name_char.ensures, c.is_name_char-2.ensures, c.is_name_char-3.ensures, c.to_be_bytes-characters.ensures, highest c.args.v c.requires)
