mod Olds
