mod Numerals
