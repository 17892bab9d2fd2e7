use Rattle.dm_head.proofs.HeadLemmas.{found_content, other_part_more, other_size_more, large_more}
use Rattle.dm_head.proofs.whole.fitted.Goals as goal

pub returns-in-Fits : goal.returns-in-Fits
returns-in-Fits c =
    found_content c.args.wanted.now c.requires.whole c.args.framing c.requires.of_kind c.requires.good c.in-Fits.extent c.metadata_of.result
    c.in-Fits.ensures.0 c.in-Fits.ensures.1 c.metadata_of.ensures

pub returns-in-OtherPart : goal.returns-in-OtherPart
returns-in-OtherPart c =
    other_part_more c.args.wanted.now c.requires.whole c.args.framing c.requires.of_kind c.requires.good c.in-OtherPart.ensures

pub returns-in-OtherSize : goal.returns-in-OtherSize
returns-in-OtherSize c =
    other_size_more c.args.wanted.now c.requires.whole c.args.framing c.requires.of_kind c.requires.good c.in-OtherSize.ensures

pub returns-in-TooLarge : goal.returns-in-TooLarge
returns-in-TooLarge c =
    large_more c.args.wanted.now c.requires.whole c.args.framing c.requires.of_kind c.requires.good c.in-TooLarge.total
    c.in-TooLarge.ensures.0 c.in-TooLarge.ensures.1
