mod StatedLaws
